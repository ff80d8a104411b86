use Rattle.std.proofs.Common.{◌∙◌, sym, ap, List, ◌∷◌, ℕ, ◌+◌, ◌-◌, length, take, drop, arith, length-drop, rules}
use Rattle.std.proofs.lemmas.List.{take_all}
use Rattle.names.specs.Dns.{labels}
use Rattle.names_identity.specs.Identity.{folded}
use Rattle.names_identity.proofs.Wildcards.{labels_at, labels_none}
use Rattle.names_identity.proofs.matching.split_label.Goals as goal

pub returns-in-Some : goal.returns-in-Some
returns-in-Some c =
    let text = c.args.text.now in
    let i = c.in-Some.dot in
    labels_at text i (search rules)
    ∙ ap (λ (l : List ℕ). folded (take i text) ∷ labels l)
    (sym (take_all (length text - (i + 1)) (drop (i + 1) text) (omega (arith, length-drop (i + 1) text))))

pub returns-in-None : goal.returns-in-None
returns-in-None c = labels_none c.args.text.now (search rules)
