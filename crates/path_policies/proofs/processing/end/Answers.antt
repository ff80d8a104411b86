use Rattle.std.proofs.Common.{◌≡◌, ◌≤◌, ℕ, List, length, refl, sym, subst, arith, ◌∙◌}
use Rattle.std.specs.Bool.{Decides}
use Rattle.std.proofs.lemmas.List.{length-map}
use Rattle.std.proofs.lemmas.Bool.{false≢true}
use Rattle.path_policies.specs.Query.{count}
use Rattle.path_policies.specs.Acceptance.{IsAuthorityPolicy, IsUserPolicy}
use Rattle.path_policies.specs.Outcome.{IsAcceptable}
use Rattle.path_policies.specs.Seen.{seen_query, seen_policy_certificate}
use Rattle.path_policies.specs.Sets.{has}
use Rattle.path_policies.specs.Walk.{HasWalked}
use Rattle.path_policies.proofs.Ending.{acceptable, are_policies, authority_decides, user_decides, required_end_decides}
use Rattle.path_policies.proofs.processing.end.Goals as goal

pub returns-then-lacks_policy : goal.returns-then-lacks_policy
returns-then-lacks_policy c =
    let q = seen_query c.args.query.now in
    let n = length c.args.query.now.certificates.now in
    let n_is : count q ≡ n = length-map c.args.query.now.certificates.now seen_policy_certificate in
    let walked : HasWalked q (count q) c.args.firsts.now c.args.valid.now = subst (λ (m : ℕ). HasWalked q m c.args.firsts.now c.args.valid.now) (sym n_is) c.requires.walked in
    let authority : (policy : List ℕ) → Decides (has c.in_ok-authority.authority policy) (IsAuthorityPolicy q policy) =
    authority_decides q n c.in_ok-authority.authority c.args.valid.now n_is walked.pass c.in_ok-authority.ensures walked.expected_is in
    let user : (policy : List ℕ) → Decides (has c.in_ok-user.user policy) (IsUserPolicy q policy) =
    user_decides q c.args.query.now.initial_policies.now c.in_ok-user.user c.in_ok-authority.authority refl authority c.in_ok-user.ensures in
    let le : count q ≤ count q = omega arith in
    let each : (j : ℕ) → 1 ≤ j → j ≤ n → IsAcceptable q j = (λ j from to. acceptable q (count q) le walked.pass j from (subst (λ (m : ℕ). j ≤ m) (sym n_is) to)) in
    let lacks = c.if-lacks_policy.ensures.lacks refl in
    let required = (required_end_decides q).0 (sym c.is_required_at_end-is_required.ensures ∙ lacks.0) in
    (sym n_is, (each, (λ one. let p = one required in false≢true (sym (lacks.1 p.0) ∙ (user p.0).1 p.1))))

pub returns : goal.returns
returns c =
    let q = seen_query c.args.query.now in
    let n = length c.args.query.now.certificates.now in
    let n_is : count q ≡ n = length-map c.args.query.now.certificates.now seen_policy_certificate in
    let walked : HasWalked q (count q) c.args.firsts.now c.args.valid.now = subst (λ (m : ℕ). HasWalked q m c.args.firsts.now c.args.valid.now) (sym n_is) c.requires.walked in
    let authority : (policy : List ℕ) → Decides (has c.in_ok-authority.authority policy) (IsAuthorityPolicy q policy) =
    authority_decides q n c.in_ok-authority.authority c.args.valid.now n_is walked.pass c.in_ok-authority.ensures walked.expected_is in
    let user : (policy : List ℕ) → Decides (has c.in_ok-user.user policy) (IsUserPolicy q policy) =
    user_decides q c.args.query.now.initial_policies.now c.in_ok-user.user c.in_ok-authority.authority refl authority c.in_ok-user.ensures in
    let le : count q ≤ count q = omega arith in
    record {
      each = λ j from to. acceptable q (count q) le walked.pass j from to;
      user = λ required. let p = c.if-lacks_policy.ensures.meets refl (c.is_required_at_end-is_required.ensures ∙ (required_end_decides q).1 required) in (p.0, (user p.0).0 p.1);
      authority_constrained = are_policies c.in_ok-authority_constrained.authority_constrained.items c.in_ok-authority.authority (IsAuthorityPolicy q) c.in_ok-authority_constrained.ensures.members authority;
      user_constrained = are_policies c.in_ok-user_constrained.user_constrained.items c.in_ok-user.user (IsUserPolicy q) c.in_ok-user_constrained.ensures.members user;
      authority_order = c.in_ok-authority_constrained.ensures.ascending;
      user_order = c.in_ok-user_constrained.ensures.ascending;
    }
