-- A single response that was read is read again without its extensions, to the same fields.
use Rattle.std.proofs.Common.{◌≡◌, ℕ, ◌+◌, List, [], ◌∷◌, Result, Ok, Err, nat_lt, refl, sym, ap, ◌∙◌}
use Rattle.asn.specs.Place.{Place}
use Rattle.asn.specs.Members.{Members}
use Rattle.asn.specs.Walk.{◌>>=◌, is_a, check_that, ended}
use Rattle.asn.proofs.Laws.{bind_ok, ok_is}
use Rattle.statements_parts.specs.declared.fault.StatementRule.{StatementRule}
use Rattle.statements_parts.specs.declared.fault.StatementRule.TheVariants.{Layout, TooManySingles}
use Rattle.statements_ocsp.specs.ResponseExtensions.{optional_response_extensions}
use Rattle.statements_ocsp.specs.Single.{SingleResponse, single_fields, single, single_after, singles, singles_checked, single_again, singles_again}

again : (value : Place) (fields : SingleResponse) → single value ≡ Ok fields → single_again value ≡ Ok fields
unfolding single single_again
again value fields e =
    let read = bind_ok {A = SingleResponse × Members} _ _ fields e in
    let left = bind_ok {A = Members} (optional_response_extensions read.0.1) _ fields read.2 in
    let done = bind_ok {A = Unit {0}} (ended Layout left.0) _ fields left.2 in
    let is_read : single_fields value ≡ Ok read.0 = read.1 in
    rw is_read done.2

read_again : (before : ℕ) (value : Place) (fields : SingleResponse) → single_after before value ≡ Ok fields → single_again value ≡ Ok fields
unfolding single_after
read_again before value fields e =
    let sequence = bind_ok {A = Unit {0}} (is_a 0x30 Layout value) _ fields e in
    let served = bind_ok {A = Unit {0}} (check_that (nat_lt before 256) TooManySingles value.at) _ fields sequence.2 in
    again value fields served.2

-- the first of some values is a single response: the fault of all is that of the others
pub next_checked : (before : ℕ) (value : Place) (values : List Place) (fields : SingleResponse) → single_after before value ≡ Ok fields → singles_checked (singles (before + 1) values) ≡ singles_checked (singles before (value ∷ values))
next_checked before value values fields e = rw e (others (singles (before + 1) values))
  where
    others : (read : Result (List SingleResponse) (StatementRule × ℕ)) → singles_checked read ≡ singles_checked (read >>= λ rest. Ok (fields ∷ rest))
    others (Ok rest) = refl
    others (Err fault) = refl

pub first_refused : (before : ℕ) (value : Place) (values : List Place) (fault : StatementRule × ℕ) → single_after before value ≡ Err fault → singles_checked (singles before (value ∷ values)) ≡ Err fault
first_refused before value values fault e = rw e refl

-- what was checked is handed out
all_again : (before : ℕ) (values : List Place) (read : List SingleResponse) → singles before values ≡ Ok read → singles_again values ≡ read
all_again before [] read e = ok_is {E = StatementRule × ℕ} [] read e
all_again before (value ∷ values) read e =
    let first = bind_ok _ _ read e in
    let others = bind_ok _ _ read first.2 in
    rw (read_again before value first.0 first.1, all_again (before + 1) values others.0 others.1) (ok_is {E = StatementRule × ℕ} _ read others.2)

are_ok : (before : ℕ) (values : List Place) (read : Result (List SingleResponse) (StatementRule × ℕ)) → singles before values ≡ read → singles_checked read ≡ Ok tt → singles before values ≡ Ok (singles_again values)
are_ok before values (Ok all) e done = e ∙ ap (λ list. Ok list) (sym (all_again before values all e))
are_ok before values (Err fault) e done = absurd cc

pub checked_singles : (before : ℕ) (values : List Place) → singles_checked (singles before values) ≡ Ok tt → singles before values ≡ Ok (singles_again values)
checked_singles before values done = are_ok before values (singles before values) refl done

are_refused : (read : Result (List SingleResponse) (StatementRule × ℕ)) (fault : StatementRule × ℕ) → singles_checked read ≡ Err fault → read ≡ Err fault
are_refused (Ok all) fault e = absurd cc
are_refused (Err other) fault e = ap (λ f. Err f) err
  where
    err : other ≡ fault
    err = cc

pub refused_singles : (before : ℕ) (values : List Place) (fault : StatementRule × ℕ) → singles_checked (singles before values) ≡ Err fault → singles before values ≡ Err fault
refused_singles before values fault e = are_refused (singles before values) fault e
