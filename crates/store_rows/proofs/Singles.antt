-- Look-ups of what responses say, and a single response in the place of another.
use Rattle.std.proofs.Common.{◌≡◌, ℕ, pos, List, [], ◌∷◌, filter, find, not, Option, option_map, Result, Ok, Err, IfOk, IfSome, IsTrue, refl, subst, ◌∙◌}
use Rattle.sqlite.specs.declared.types.Value.TheVariants.{Int, Blob}
use Rattle.sqlite.specs.Order.{Row}
use Rattle.sqlite.specs.State.{State, Shown, ExecutesInside}
use Rattle.statements_facts.specs.Statement.{OcspFact}
use Rattle.store_sql.specs.declared.fault.StoreFault.{StoreFault}
use Rattle.store_sql.specs.Texts.{select_single, delete_single, insert_single}
use Rattle.store_sql.proofs.Laws.{selects_single}
use Rattle.store_rows.specs.Contents.{SingleRow, said_of, said_cells, is_single_of, shown}
use Rattle.store_rows.specs.Holding.{IsSaid, with_single}
use Rattle.store_rows.specs.Steps.{Finds, Moves}
use Rattle.store_rows.proofs.Finding.{finds_shown, shown_map}
use Rattle.store_rows.proofs.Issuers.{found_has, mapped_has}
use Rattle.store_rows.proofs.Steps.{single_shown, single_deleted, single_added}

pub single_found : {A : Type 0} (old new : State) (issuer : ℕ) (name_hash serial : List ℕ) (rows : List Row) (result : Result A StoreFault) (view : A → Option OcspFact)
    → IfOk result (λ found. (fact : Option OcspFact) → IfSome fact IsSaid → rows ≡ shown said_cells fact → view found ≡ fact)
    → (result ≡ Err StoreFault.Schema → (fact : Option OcspFact) → IfSome fact IsSaid → rows ≡ shown said_cells fact → ⊥)
    → IsTrue old.in_transaction → Shown select_single (Int (pos issuer) ∷ Blob name_hash ∷ Blob serial ∷ []) old new rows
    → Finds old new (λ it found. view found ≡ option_map said_of (find (is_single_of issuer name_hash serial) it.singles)) result
single_found old new issuer name_hash serial rows result view ok schema inside h =
    finds_shown old new select_single (Int (pos issuer) ∷ Blob name_hash ∷ Blob serial ∷ []) rows result said_cells (λ found fact. view found ≡ fact) IsSaid (λ it. option_map said_of (find (is_single_of issuer name_hash serial) it.singles)) (λ it found. view found ≡ option_map said_of (find (is_single_of issuer name_hash serial) it.singles))
    ok schema inside h (λ origin. (selects_single origin).2)
    (λ origin it held form. (
      single_shown origin old new it held issuer name_hash serial rows h ∙ shown_map said_cells said_of (find (is_single_of issuer name_hash serial) it.singles),
      mapped_has said_of IsSaid (find (is_single_of issuer name_hash serial) it.singles) (found_has (λ (row : SingleRow). IsSaid (said_of row)) (is_single_of issuer name_hash serial) it.singles form.statuses),
    ))
    (λ it found is. is)

pub single_moves : (old mid new : State) (issuer : ℕ) (name_hash serial : List ℕ) (fact : OcspFact) (cells : Row) (gone count : ℕ) → cells ≡ said_cells fact
    → ExecutesInside 0 delete_single (Int (pos issuer) ∷ Blob name_hash ∷ Blob serial ∷ []) old mid (Ok gone)
    → ExecutesInside 0 insert_single (Int (pos issuer) ∷ Blob name_hash ∷ Blob serial ∷ cells) mid new (Ok count) → Moves old new (with_single issuer (record { name_hash = name_hash; serial = serial; fact = fact }))
single_moves old mid new issuer name_hash serial fact cells gone count are one made =
    let two = subst (λ more. ExecutesInside 0 insert_single (Int (pos issuer) ∷ Blob name_hash ∷ Blob serial ∷ more) mid new (Ok count)) are made in
    record {
      was_open = one.1.was_open;
      is_open = two.1.is_open;
      committed_is = two.1.committed_is ∙ one.1.committed_is;
      mode = rw two.1.mode refl;
      rows = λ origin it held form.
          single_added origin mid new (record it { singles = filter (λ row. not (is_single_of issuer name_hash serial row)) it.singles }) (single_deleted origin old mid it held issuer name_hash serial gone one.0) issuer name_hash serial fact count two.0;
    }
