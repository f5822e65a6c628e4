-- Lines as they lie in memory, and as they are seen.
use Rattle.std.proofs.Common.{◌≡◌, ℕ, List, [], ◌∷◌, ◌++◌, map, refl, ap, ◌∙◌}
use Rattle.std.specs.Borrow.{Bor}
use Rattle.std.specs.List.{flat_map}
use Rattle.sw_settings.specs.declared.values.Values.{Values}
use Rattle.sw_settings_print.specs.declared.lines.Shown.{Shown}
use Rattle.sw_settings_print.specs.Print.{line_text, seen, seen_text, lines, settings_text}

seen_lines : (ls : List (Bor (List ℕ) × Shown)) → flat_map seen_text ls ≡ flat_map line_text (map seen ls)
seen_lines [] = refl
seen_lines (l ∷ ls) = ap (λ text. seen_text l ++ text) (seen_lines ls)

-- the text of the lines that show these settings
pub text_of_lines : (ls : List (Bor (List ℕ) × Shown)) (v : Values) → map seen ls ≡ lines v → flat_map seen_text ls ≡ settings_text v
text_of_lines ls v e = seen_lines ls ∙ ap (flat_map line_text) e
