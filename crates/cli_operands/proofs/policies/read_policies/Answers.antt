use Rattle.std.proofs.Common.{◌≡◌, ◌+◌, ◌∷◌, ◌++◌, ◌∙◌, [], ℕ, Bor, List, Vec, Global, ap, map, sym, subst, take}
use Rattle.std.proofs.lemmas.List.{map-append}
use Rattle.std.proofs.lemmas.Result.{err_from_is_err_and}
use Rattle.cli_operands.specs.Policies.{NamePolicies}
use Rattle.cli_operands.proofs.NamedPolicies.{one_bad, one_named}
use Rattle.cli_operands.proofs.policies.read_policies.Goals as goal

pub returns-in_err-contents-clause-fails : goal.returns-in_err-contents-clause-fails
returns-in_err-contents-clause-fails c =
    let p = err_from_is_err_and c.from_residual.result c.from_residual.ensures.1 in
    rw (p.1, p.2)
    (one_bad c.args.words.now c.loop-word.word-index _ (map (λ (contents : Vec ℕ Global). contents.items) c.loop-word.policies.items) c.loop-word-test.true c.loop-word.invariant _ c.in_err-contents.ensures.fails)

pub loop-word-preserved : goal.loop-word-preserved
loop-word-preserved c =
    let items = λ (contents : Vec ℕ Global). contents.items in
    let grown : c.push.new.self.items ≡ c.loop-word.policies.items ++ c.in_ok-contents.contents ∷ [] = rw c.if-is_err.ensures.negation at c.push.ensures.items in
    let seen = ap (map items) grown ∙ map-append items c.loop-word.policies.items (c.in_ok-contents.contents ∷ []) in
    subst (λ (policies : List (List ℕ)). NamePolicies (map (λ (word : Bor (List ℕ)). word.now) (take (c.loop-word.word-index + 1) c.args.words.now)) policies) (sym seen)
    (one_named c.args.words.now c.loop-word.word-index _ (map items c.loop-word.policies.items) c.loop-word-test.true c.loop-word.invariant c.in_ok-contents.contents.items c.in_ok-contents.ensures.reads)
