-- What octets are told to be a response.
use Rattle.std.proofs.Common.{◌≡◌, ◌+◌, ℕ, Bool, true, false, List, [], ◌∷◌, refl, sym, ap, ◌∙◌, subst, eq-eqb}
use Rattle.std.proofs.lemmas.Bool.{and_parts, and_from, eqb-true}
use Rattle.asn.specs.Identifier.{is_constructed}
use Rattle.asn.specs.Value.{Value, Values, primitive, constructed, none, more}
use Rattle.asn.specs.Encoding.{EncodesAt, Encodes}
use Rattle.asn.specs.Length.{header_len}
use Rattle.asn.specs.Place.{Place, tag}
use Rattle.asn.specs.Members.{members, begins, begins_in}
use Rattle.asn.specs.Layout.{AreMembersAt, IsValueAt}
use Rattle.asn.proofs.Laws.{holds}
use Rattle.statements_ocsp.specs.Kind.{is_response, BeginsWithStatus, KindIsExact}

abbrev whole : List ℕ → Place
whole octets = record { octets = octets; at = 0 }

-- what the first place shows of the first value
record HoldsFirst (depth : ℕ) (first : Value) (places : List Place) : Type 0 where
  place : Place
  others : List Place
  are : places ≡ place ∷ others
  encodes : EncodesAt depth place.octets first

first_of : (depth at : ℕ) (first : Value) (rest : Values) (places : List Place) → AreMembersAt depth at (more first rest) places → HoldsFirst depth first places
first_of depth at first rest [] are = absurd are
first_of depth at first rest (place ∷ others) are = record { place = place; others = others; are = refl; encodes = are.1 }

none_of : (depth at identifier : ℕ) (places : List Place) → AreMembersAt depth at none places → begins_in identifier places ≡ true → ⊥
none_of depth at identifier [] are e = absurd cc
none_of depth at identifier (place ∷ others) are e = are

never : (b : Bool) → b ≡ false → b ≡ true → ⊥
never true e f = absurd cc
never false e f = absurd cc

-- a value whose place begins with a status, by its first value
of_first : (octets : List ℕ) (identifier depth : ℕ) (first : Value) (rest : Values) (place : Place) → Encodes octets (constructed identifier (more first rest)) → IsValueAt depth first place → tag place ≡ 0x0A → BeginsWithStatus octets
of_first octets identifier depth (primitive kind code) rest place encodes shows is =
    let kind_is : kind ≡ 0x0A = sym shows.0 ∙ is in
    record { identifier = identifier; code = code; others = rest; encoded = subst (λ k. Encodes octets (constructed identifier (more (primitive k code) rest))) kind_is encodes }
of_first octets identifier depth (constructed kind values) rest place encodes shows is =
    let kind_is : kind ≡ 0x0A = sym shows.0 ∙ is in
    absurd (never (is_constructed kind) (ap is_constructed kind_is) shows.1)

of_value : (octets : List ℕ) (value : Value) → Encodes octets value → IsValueAt 1 value (whole octets) → is_constructed (tag (whole octets)) ≡ true → begins_in 0x0A (members (whole octets)).values ≡ true → BeginsWithStatus octets
of_value octets (primitive identifier contents) encodes shows constructed_is e =
    absurd (never (is_constructed (tag (whole octets))) (ap is_constructed shows.0 ∙ shows.1) constructed_is)
of_value octets (constructed identifier none) encodes shows constructed_is e =
    absurd (none_of 2 (0 + header_len octets) 0x0A (members (whole octets)).values shows.2 e)
of_value octets (constructed identifier (more first rest)) encodes shows constructed_is e =
    let found = first_of 2 (0 + header_len octets) first rest (members (whole octets)).values shows.2 in
    let is : tag found.place ≡ 0x0A = eqb-true (tag found.place) 0x0A (ap (begins_in 0x0A) (sym found.are) ∙ e) in
    of_first octets identifier 2 first rest found.place encodes (holds 2 first found.place found.encodes) is

begins_again : (octets : List ℕ) → BeginsWithStatus octets → begins 0x0A (members (whole octets)) ≡ true
unfolding begins
begins_again octets is =
    let shows = holds 1 (constructed is.identifier (more (primitive 0x0A is.code) is.others)) (whole octets) is.encoded in
    let found = first_of 2 (0 + header_len octets) (primitive 0x0A is.code) is.others (members (whole octets)).values shows.2 in
    let first = holds 2 (primitive 0x0A is.code) found.place found.encodes in
    ap (begins_in 0x0A) found.are ∙ eq-eqb (tag found.place) 0x0A first.0

pub kind_is_exact : KindIsExact
unfolding is_response begins
kind_is_exact octets value encodes = (
  λ t.
      let both = and_parts (is_constructed (tag (whole octets))) (begins 0x0A (members (whole octets))) t in
      of_value octets value encodes (holds 1 value (whole octets) encodes) both.0 both.1,
  λ is.
      let shows = holds 1 (constructed is.identifier (more (primitive 0x0A is.code) is.others)) (whole octets) is.encoded in
      and_from (is_constructed (tag (whole octets))) (begins 0x0A (members (whole octets))) (ap is_constructed shows.0 ∙ shows.1) (begins_again octets is),
)
