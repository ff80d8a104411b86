use Rattle.std.proofs.Common.{◌≡◌, ℕ, List, [], Result, Ok, refl, sym, ap, ◌∙◌}
use Rattle.std.proofs.lemmas.Result.{err_from_is_err_and}
use Rattle.asn.specs.Members.{Members, left}
use Rattle.asn.specs.Walk.{◌>>=◌, each}
use Rattle.asn.specs.Place.{seen_tlv, remaining}
use Rattle.asn.proofs.Laws.{each_none, each_refused, each_more}
use Rattle.names_distinguished.specs.declared.fault.NameRule.{NameRule}
use Rattle.names_distinguished.specs.NameLayout.{attribute, attributes}
use Rattle.names_distinguished.specs.Repetition.{kinds_left}
use Rattle.names_distinguished.proofs.NewKinds.{new_first, new_others, rest_step, rest_begins, nothing_new}
use Rattle.names_distinguished.proofs.name.read_several_attributes.Goals as goal

pub returns-in_err-before : goal.returns-in_err-before
unfolding attributes
returns-in_err-before c =
    let values = (left c.args.all).values in
    let p = err_from_is_err_and c.from_residual.result c.from_residual.ensures.1 in
    let stopped = each_refused (attribute values) c.loop-tlv.before.now ((left c.loop-tlv.rest).values) (seen_tlv c.in-Some.tlv) ((left c.next.new.self).values) _ (ap (λ (m : Members). m.values) c.in-Some.ensures.step) c.in_err-before.ensures in
    let e = sym c.loop-tlv.invariant.walk ∙ stopped in
    rw (p.1, p.2) (ap (λ (r : Result (List ℕ) (NameRule × ℕ)). r >>= λ last. Ok tt) e)

pub returns : goal.returns
unfolding attributes
returns c =
    let values = (left c.args.all).values in
    let last = c.loop-tlv.before.now in
    let e : each (attribute values) [] values ≡ Ok last = sym c.loop-tlv.invariant.walk ∙ each_none (attribute values) last ((left c.loop-tlv.rest).values) c.in_default.ensures.step in
    ap (λ (r : Result (List ℕ) (NameRule × ℕ)). r >>= λ last. Ok tt) e

pub read_attribute-requires : goal.read_attribute-requires
read_attribute-requires c = new_first c.args.all c.loop-tlv.rest c.next.new.self c.in-Some.tlv c.loop-tlv.clear c.in-Some.ensures.step c.loop-tlv.invariant.new

pub loop-tlv-init : goal.loop-tlv-init
loop-tlv-init c = record {
  walk = refl;
  rest = rest_begins (kinds_left c.args.all) (remaining c.args.all).at;
  new = nothing_new (kinds_left c.args.all) (kinds_left c.args.all);
}

pub clear_after-clear-requires-clause-rest : goal.clear_after-clear-requires-clause-rest
clear_after-clear-requires-clause-rest c = rest_step (kinds_left c.args.all) c.loop-tlv.rest c.next.new.self c.in-Some.tlv c.loop-tlv.invariant.rest c.in-Some.ensures.step c.in-Some.ensures.splits

pub clear_after-clear-requires-clause-new : goal.clear_after-clear-requires-clause-new
clear_after-clear-requires-clause-new c = new_others c.args.all c.loop-tlv.rest c.next.new.self c.in-Some.tlv c.loop-tlv.clear c.in-Some.ensures.step c.loop-tlv.invariant.new

pub loop-tlv-preserved : goal.loop-tlv-preserved
loop-tlv-preserved c =
    let values = (left c.args.all).values in
    let more = each_more (attribute values) c.loop-tlv.before.now ((left c.loop-tlv.rest).values) (seen_tlv c.in-Some.tlv) ((left c.next.new.self).values) c.in_ok-before.before.now (ap (λ (m : Members). m.values) c.in-Some.ensures.step) c.in_ok-before.ensures in
    record {
      walk = sym more ∙ c.loop-tlv.invariant.walk;
      rest = rest_step (kinds_left c.args.all) c.loop-tlv.rest c.next.new.self c.in-Some.tlv c.loop-tlv.invariant.rest c.in-Some.ensures.step c.in-Some.ensures.splits;
      new = c.clear_after-clear.ensures;
    }
