use Rattle.std.proofs.Common.{◌≡◌, ◌<◌, ◌∙◌, ℕ, Bor, List, Option, Some, IfErr, IfOk, ap, arith, drop, length, option_map, rules, subst, sym}
use Rattle.cli_requests.specs.Requests.{IsNone, Request, seen_request}
use Rattle.cli_requests.proofs.FirstPolicies.{behind_policies, few}
use Rattle.cli_requests.proofs.policies.asked_in.Goals as goal

pub split_at-requires : goal.split_at-requires
split_at-requires c =
    let least = few c.args.words.now c.in_ok-policies.policies.items c.in_ok-policies.ensures in
    omega (arith, least, c.len.ensures, c.in_ok-policies.policies.ok)

pub returns-clause-reads : goal.returns-clause-reads
returns-clause-reads c =
    let policies = c.in_ok-policies.policies in
    let count : c.len.result ≡ length policies.items = omega (arith, c.len.ensures, policies.ok) in
    let some : 0 < length policies.items = search rules in
    let text = option_map (λ (text : Bor (List ℕ)). text.now) c.args.purpose in
    let is = behind_policies c.args.moment.now text c.args.words.now policies.items _ c.in_ok-policies.ensures some
    (c.split_at.ensures.back ∙ ap (λ (k : ℕ). drop k c.args.words.now) count) in
    subst (λ (found : Option Request). IfOk c.path_with_policies_in.result (λ request. found ≡ Some (seen_request request))) (sym is) c.path_with_policies_in.ensures.reads

pub returns-clause-refuses : goal.returns-clause-refuses
returns-clause-refuses c =
    let policies = c.in_ok-policies.policies in
    let count : c.len.result ≡ length policies.items = omega (arith, c.len.ensures, policies.ok) in
    let some : 0 < length policies.items = search rules in
    let text = option_map (λ (text : Bor (List ℕ)). text.now) c.args.purpose in
    let is = behind_policies c.args.moment.now text c.args.words.now policies.items _ c.in_ok-policies.ensures some
    (c.split_at.ensures.back ∙ ap (λ (k : ℕ). drop k c.args.words.now) count) in
    subst (λ (found : Option Request). IfErr c.path_with_policies_in.result (IsNone found)) (sym is) c.path_with_policies_in.ensures.refuses
