use Rattle.sw_bench.proofs.cut.fixed_load.Given as goal

abbrev pub ghosts-search_one_by_one : goal.ghosts-search_one_by_one
ghosts-search_one_by_one g a = record { name = a.blank.name; parts = a.blank.parts }
