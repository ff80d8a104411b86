use Rattle.std.proofs.Common.{◌∷◌, [], ◌++◌, ℕ, List, ap, ◌∙◌}
use Rattle.names_identity.proofs.MailboxTexts.{stripped, not_stripped, mapped, rest_is}
use Rattle.names_identity.proofs.matching.behind_local.Goals as goal

pub returns-in-Some : goal.returns-in-Some
returns-in-Some c =
    let name = c.args.name.now in
    let local = c.args.local.now in
    let rest = c.in-Some.rest.now in
    let joined = stripped name local rest c.in-Some.ensures.cases.0 c.in-Some.ensures.cases.1 in
    mapped c.strip_prefix-in-Some.result
    (λ f. λ host e. not_stripped rest (64 ∷ []) host f (rest_is name local rest (64 ∷ host) joined e))
    (λ host h. joined ∙ ap (λ (l : List ℕ). local ++ l) (stripped rest (64 ∷ []) host.now h.0 h.1))
    c.strip_prefix-in-Some.ensures.cases

pub returns-in-None : goal.returns-in-None
returns-in-None c = λ host e. not_stripped c.args.name.now c.args.local.now (64 ∷ host) c.in-None.ensures.cases e
