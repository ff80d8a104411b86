use Rattle.std.proofs.Common.{to_z, of_z, w64, rules, ◌≡◌, List, ◌++◌, Result, Ok, Err, OnOk, refl, ap, ◌∙◌}
use Rattle.std.proofs.lemmas.List.{map-append}
use Rattle.std.specs.Bool.{if◌then◌else◌}
use Rattle.std.specs.Result.{is_ok}
use Rattle.sqlite.specs.Order.{Row}
use Rattle.sqlite.specs.Values.{bound}
use Rattle.sqlite_value.specs.declared.value.ValueRef.{ValueRef}
use Rattle.store_sql.specs.Bindings.{entry_cells_row}
use Rattle.store_sql.proofs.entry.push_columns.Goals as goal

where_ok : {A E Q : Type 0} (result : Result A E) (left longer same : List ValueRef) → left ≡ (if is_ok result then longer else same) → (left ≡ longer → Q) → OnOk result Q
where_ok (Ok value) left longer same is on = on is
where_ok (Err error) left longer same is on = tt

pushed : (old news more : List ValueRef) (row : Row) → news ≡ old ++ more → bound more ≡ row → bound news ≡ bound old ++ row
pushed old news more row same are = ap bound same ∙ map-append _ old more ∙ ap (λ columns. bound old ++ columns) are

pub returns : goal.returns
returns c =
    let e0 : to_z w64 (of_z w64 c.args.entry.now.place) ≡ c.args.entry.now.place = search rules in
    let e1 : to_z w64 (of_z w64 c.args.entry.now.issuer) ≡ c.args.entry.now.issuer = search rules in
    let e2 : to_z w64 (of_z w64 c.args.entry.now.scope) ≡ c.args.entry.now.scope = search rules in
    let e3 : to_z w64 (of_z w64 c.args.entry.now.reason) ≡ c.args.entry.now.reason = search rules in
    where_ok c.extend_from_slice.result _ _ _ c.extend_from_slice.ensures.items (λ same. pushed c.args.columns.now.items _ _ (entry_cells_row c.args.entry.now) same (rw (e0, e1, e2, e3) refl))
