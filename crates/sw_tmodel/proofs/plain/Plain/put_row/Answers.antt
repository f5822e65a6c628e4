use Rattle.std.proofs.Common.{◌≡◌, None, true, ap, sym, subst, ◌∙◌}
use Rattle.std.specs.FinMap as map
use Rattle.sw_table_laws.specs.Table.{Shape, has_room}
use Rattle.sw_tmodel.specs.Plain.{PlainTable, shape_of}
use Rattle.sw_tmodel.specs.Store.{Stored, state_of}
use Rattle.sw_tmodel.proofs.PlaceLaws.{new_place}
use Rattle.sw_tmodel.proofs.plain.Plain.put_row.Goals as goal

pub returns : goal.returns
returns c =
    let v = c.self.view_is in
    let store = c.self.inside.store in
    let key = c.args.key.now in
    let row = c.args.row.now in
    let shape : c.fill.new.self.shape ≡ store.shape = c.fill.ensures.shape ∙ ap (λ (s : Stored). s.shape) c.add.ensures.entries in
    let miss : map.get (state_of store.entries) key ≡ None = subst (λ (p : PlainTable). map.get p.state key ≡ None) (sym v) c.requires.missing in
    let room : has_room store.shape (state_of store.entries) key ≡ true =
    subst (λ n. has_room (record { columns = store.shape.columns; size = store.shape.size; pool = n }) (state_of store.entries) key ≡ true) (sym c.self.invariant.1)
    (subst (λ (p : PlainTable). has_room (shape_of p) p.state key ≡ true) (sym v) c.requires.room) in
    let place = new_place store c.add.new.self key c.len-at.result miss room c.len-at.ensures.places c.add.ensures.entries c.add.ensures.state in
    let state : state_of c.fill.new.self.entries ≡ map.insert (state_of store.entries) key row = c.fill.ensures.state ∙ ap (λ k. map.insert (state_of c.add.new.self.entries) k row) place.2 ∙ place.4 row in
    λ i. record {
      columns = (ap (λ (s : Shape). s.columns) shape ∙ ap (λ (p : PlainTable). p.columns) v) i;
      size = (ap (λ (s : Shape). s.size) shape ∙ ap (λ (p : PlainTable). p.size) v) i;
      percent = ap (λ (p : PlainTable). p.percent) v i;
      last_call = ap (λ (p : PlainTable). p.last_call) v i;
      calls = ap (λ (p : PlainTable). p.calls) v i;
      state = (state ∙ ap (λ (p : PlainTable). map.insert p.state key row) v) i;
    }
