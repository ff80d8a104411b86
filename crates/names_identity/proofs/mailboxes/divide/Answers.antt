use Rattle.std.proofs.Common.{◌≡◌, ◌≢◌, ◌⊎◌, ◌+◌, ◌-◌, ℕ, List, length, take, drop, get_or, sym, subst, arith, rules, length-drop}
use Rattle.std.proofs.lemmas.List.{take_all}
use Rattle.names_identity.specs.Mailbox.{IsDivided}
use Rattle.names_identity.proofs.MailboxTexts.{not_divided, not_divided_here, divides}
use Rattle.names_identity.proofs.mailboxes.divide.Goals as goal

pub returns-in_default-clause-accepts : goal.returns-in_default-clause-accepts
returns-in_default-clause-accepts c = λ local host d. absurd (not_divided c.args.text.now local host (search rules) d)

pub returns-then-at-eq0-clause-accepts : goal.returns-then-at-eq0-clause-accepts
returns-then-at-eq0-clause-accepts c = λ local host d.
    let stops : (c.in-Some.at ≡ 0) ⊎ (get_or c.args.text.now c.in-Some.at 0 ≢ 64) = search rules in
    absurd (not_divided_here c.args.text.now local host c.in-Some.at (search rules) stops d)

pub returns-clause-divides : goal.returns-clause-divides
returns-clause-divides c =
    let text = c.args.text.now in
    let at = c.in-Some.at in
    subst (λ (l : List ℕ). IsDivided text (take at text) l) (sym (take_all (length text - (at + 1)) (drop (at + 1) text) (omega (arith, length-drop (at + 1) text))))
    (divides text at (search rules) (omega arith) (search rules))
