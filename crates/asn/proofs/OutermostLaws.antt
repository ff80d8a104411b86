-- The first fault of octets is what is found.
use Rattle.std.proofs.Common.{◌≡◌, ◌⊎◌, ℕ, ◌≤◌, List, length, Result, Ok, Err, refl, ap, ◌∙◌, inl, inr, arith}
use Rattle.der.specs.Value.{Value}
use Rattle.der.specs.Encoding.{Encodes}
use Rattle.der.specs.FirstFault.{IsFirstFault}
use Rattle.der.specs.declared.fault.Rule.{Rule}
use Rattle.der.specs.declared.fault.Fault.TheVariants.{Refused}
use Rattle.der.specs.Laws.{AreOctets, Decision}
use Rattle.der.proofs.Laws.{decide, never_both, one_fault, are_octets, first_within}
use Rattle.asn.specs.Part.{IsWhole, contents}
use Rattle.asn.specs.Place.{Place, body, body_place}
use Rattle.asn.specs.Outermost.{answer_of, first_fault_if, first_fault_in, placed, nested, outermost}

answers_ok : (text : List ℕ) (d : Decision text) (v : Value) → Encodes text v → answer_of text d ≡ Ok tt
answers_ok text (inl w) v encodes = refl
answers_ok text (inr (rule, at, first)) v encodes = absurd (never_both text v rule at encodes first)

answers_err : (text : List ℕ) (d : Decision text) (rule : Rule) (at : ℕ) → IsFirstFault text (Refused rule at) → answer_of text d ≡ Err (rule, at)
answers_err text (inl (v, encodes)) rule at first = absurd (never_both text v rule at encodes first)
answers_err text (inr (rule', at', first')) rule at first =
    let one = one_fault text rule' rule at' at first' first in
    ap (λ (r : Rule). Err (r, at')) one.0 ∙ ap (λ (k : ℕ). Err (rule, k)) one.1

ok_of : (text : List ℕ) (v : Value) (d : AreOctets text ⊎ (AreOctets text → ⊥)) → Encodes text v → first_fault_if text d ≡ Ok tt
ok_of text v (inl octets) encodes = answers_ok text (decide text octets) v encodes
ok_of text v (inr none) encodes = refl

err_of : (text : List ℕ) (rule : Rule) (at : ℕ) (d : AreOctets text ⊎ (AreOctets text → ⊥)) → AreOctets text → IsFirstFault text (Refused rule at) → first_fault_if text d ≡ Err (rule, at)
err_of text rule at (inl octets) fits first = answers_err text (decide text octets) rule at first
err_of text rule at (inr none) fits first = absurd (none fits)

pub whole_has_no_fault : (text : List ℕ) (v : Value) → Encodes text v → first_fault_in text ≡ Ok tt
unfolding first_fault_in
whole_has_no_fault text v encodes = ok_of text v (are_octets text) encodes

pub fault_is_first : (text : List ℕ) (rule : Rule) (at : ℕ) → AreOctets text → IsFirstFault text (Refused rule at) → first_fault_in text ≡ Err (rule, at)
unfolding first_fault_in
fault_is_first text rule at fits first = err_of text rule at (are_octets text) fits first

answers_within : (text : List ℕ) (d : Decision text) (rule : Rule) (at : ℕ) → answer_of text d ≡ Err (rule, at) → at ≤ length text
answers_within text (inl value) rule at e = absurd cc
answers_within text (inr (broken, place, first)) rule at e =
    let both : (broken, place) ≡ (rule, at) = cc in
    let same : place ≡ at = ap (λ (x : Rule × ℕ). x.1) both in
    let low = first_within text broken place first in
    omega (arith, same, low)

within_of : (text : List ℕ) (d : AreOctets text ⊎ (AreOctets text → ⊥)) (rule : Rule) (at : ℕ) → first_fault_if text d ≡ Err (rule, at) → at ≤ length text
within_of text (inl octets) rule at e = answers_within text (decide text octets) rule at e
within_of text (inr none) rule at e = absurd cc

pub first_fault_within : (text : List ℕ) (rule : Rule) (at : ℕ) → first_fault_in text ≡ Err (rule, at) → at ≤ length text
unfolding first_fault_in
first_fault_within text rule at e = within_of text (are_octets text) rule at e

-- the contents of a value are the encoding of a value of their own
answers_value : (text : List ℕ) (d : Decision text) (u : Unit {0}) → answer_of text d ≡ Ok u → IsWhole text
answers_value text (inl value) u e = value
answers_value text (inr (rule, at, first)) u e = absurd cc

value_without_fault : (text : List ℕ) (d : AreOctets text ⊎ (AreOctets text → ⊥)) (u : Unit {0}) → AreOctets text → first_fault_if text d ≡ Ok u → IsWhole text
value_without_fault text (inl octets) u fits e = answers_value text (decide text octets) u e
value_without_fault text (inr none) u fits e = absurd (none fits)

placed_ok : (r : Result (Unit {0}) (Rule × ℕ)) (place inner : Place) → placed r place ≡ Ok inner → (u : Unit {0}) × (r ≡ Ok u) × (inner ≡ place)
placed_ok (Ok u) place inner e = (u, refl, cc)
placed_ok (Err fault) place inner e = absurd cc

pub nested_ok : (value inner : Place) → AreOctets (body value) → nested value ≡ Ok inner → (inner ≡ body_place value) × IsWhole (body value)
unfolding nested first_fault_in body_place contents
nested_ok value inner fits e =
    let p = placed_ok (first_fault_in (body_place value).octets) (body_place value) inner e in
    (p.2, value_without_fault (body value) (are_octets (body value)) p.0 fits p.1)

pub nested_again : (value : Place) → IsWhole (body value) → nested value ≡ Ok (body_place value)
unfolding nested body_place contents
nested_again value (inner, encodes) = ap (λ (r : Result (Unit {0}) (Rule × ℕ)). placed r (body_place value)) (whole_has_no_fault (body value) inner encodes)

-- the same of the whole input
pub outermost_ok : (text : List ℕ) (value : Place) → AreOctets text → outermost text ≡ Ok value → (value ≡ record { octets = text; at = 0 }) × IsWhole text
unfolding outermost first_fault_in
outermost_ok text value fits e =
    let p = placed_ok (first_fault_in text) (record { octets = text; at = 0 }) value e in
    (p.2, value_without_fault text (are_octets text) p.0 fits p.1)

pub outermost_again : (text : List ℕ) → IsWhole text → outermost text ≡ Ok (record { octets = text; at = 0 })
unfolding outermost
outermost_again text (value, encodes) =
    ap (λ (r : Result (Unit {0}) (Rule × ℕ)). placed r (record { octets = text; at = 0 })) (whole_has_no_fault text value encodes)
