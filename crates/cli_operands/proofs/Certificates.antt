-- Values that are certificates, and the first that is none.
use Rattle.std.proofs.Common.{◌≡◌, ◌⊎◌, ◌<◌, ◌≤◌, ◌+◌, ℕ, suc, List, [], ◌∷◌, ◌++◌, Option, Some, None, Result, Ok, length, map, take, drop, get_or, refl, sym, ap, ◌∙◌, subst, inl, inr, arith, append_assoc, drop-cons}
use Rattle.std.specs.List.{AllByRecursion}
use Rattle.std.proofs.lemmas.List.{append-nil, get_or_default, length-append, map-append, take-append-drop, take_more}
use Rattle.std.proofs.lemmas.Grind.{flat_map-append}
use Rattle.cert.specs.Certificate.{Certificate}
use Rattle.cert.specs.declared.fault.CertRule.{CertRule}
use Rattle.path.specs.InProfile.{certificate_in}
use Rattle.statements_facts.specs.declared.profile.Profile.{Profile}
use Rattle.der.specs.declared.fault.Fault.{Fault}
use Rattle.der.specs.declared.fault.Fault.TheVariants.{Refused as Breaks, Memory}
use Rattle.der.specs.declared.fault.Rule.{Rule}
use Rattle.der.specs.declared.fault.Rule.TheVariants.{Truncated}
use Rattle.der_stream.specs.declared.reading.ReadFault.{ReadFault}
use Rattle.der_stream.specs.declared.reading.ReadFault.TheVariants.{Fault as OfValue, Limit, Io}
use Rattle.der_stream.specs.Sequence.{IsValueWithin, joined}
use Rattle.cli_failures.specs.Failures.{Holding}
use Rattle.cli_failures.specs.declared.failure.Failure.{Failure}
use Rattle.cli_failures.specs.declared.failure.Failure.TheVariants.{Refused, NoCertificate, NoRevocationList, NoResponse, NotGenuine, BadLine, BadTime, BadPurpose, BadPolicy, BadName, BadTopic, Unreadable, Unwritable, StoreFailed, NoMemory, Shut, NoInput}
use Rattle.cli_operands.specs.PathText.{AreTexts, BeginsWithValues, HoldsNoValue, HoldsOther, IsFailureOnPath, longest}
use Rattle.cli_operands.specs.CertificateValues.{AreCertificateValues, IsFailureAmong, IsFailureAt, IsOtherAmong, IsToldOf, ReadUpTo}
use Rattle.cli_operands.specs.PathFiles.{IsFailureBehind}

-- ---- values in order

joined-more : (values others : List (List ℕ)) → joined (values ++ others) ≡ joined values ++ joined others
joined-more values others = flat_map-append (λ octets. octets) values others

-- one more of the values, and those behind it
pub one_more : {V : Type 0} (text : V → List ℕ) (values : List V) (i : ℕ) (value : V) → i < length values → value ≡ get_or values i value
    → map text (take (i + 1) values) ≡ map text (take i values) ++ text value ∷ []
one_more {V = V} text values i value within is =
    ap (map text) (take_more values i value within ∙ ap (λ (v : V). take i values ++ v ∷ []) (sym is)) ∙ map-append text (take i values) (value ∷ [])

pub parted : {V : Type 0} (text : V → List ℕ) (values : List V) (i : ℕ) (value : V) → i < length values → value ≡ get_or values i value
    → map text values ≡ map text (take i values) ++ text value ∷ map text (drop (suc i) values)
parted {V = V} text values i value within is =
    ap (map text) (sym (take-append-drop i values) ∙ ap (λ (vs : List V). take i values ++ vs) (drop-cons values i value within))
    ∙ map-append text (take i values) (get_or values i value ∷ drop (suc i) values)
    ∙ ap (λ (v : V). map text (take i values) ++ text v ∷ map text (drop (suc i) values)) (sym is)

-- the same with the value as it stands in the list
pub one_more_at : {V : Type 0} (text : V → List ℕ) (values : List V) (i : ℕ) (d : V) → i < length values → map text (take (i + 1) values) ≡ map text (take i values) ++ text (get_or values i d) ∷ []
one_more_at text values i d within = one_more text values i (get_or values i d) within (get_or_default values i d (get_or values i d) within)

pub parted_at : {V : Type 0} (text : V → List ℕ) (values : List V) (i : ℕ) (d : V) → i < length values → map text values ≡ map text (take i values) ++ text (get_or values i d) ∷ map text (drop (suc i) values)
parted_at text values i d within = parted text values i (get_or values i d) within (get_or_default values i d (get_or values i d) within)

-- the first of the values have no more octets than all
pub part_of : {V : Type 0} (text : V → List ℕ) (values : List V) (i : ℕ) → length (joined (map text (take i values))) ≤ length (joined (map text values))
part_of {V = V} text values i =
    let all : map text values ≡ map text (take i values) ++ map text (drop i values) = ap (map text) (sym (take-append-drop i values)) ∙ map-append text (take i values) (drop i values) in
    let long = ap length (ap joined all ∙ joined-more (map text (take i values)) (map text (drop i values))) in
    omega (arith, long, length-append (joined (map text (take i values))) (joined (map text (drop i values))))

pub texts_more : (profile : Profile) (values others : List (List ℕ)) (first second : List Certificate) → AreTexts profile values first → AreTexts profile others second → AreTexts profile (values ++ others) (first ++ second)
texts_more profile values others first second are too =
    map-append (certificate_in profile) values others ∙ ap (λ (xs : List (Result Certificate (CertRule × ℕ))). xs ++ map (certificate_in profile) others) are ∙ ap (λ (xs : List (Result Certificate (CertRule × ℕ))). map Ok first ++ xs) too ∙ sym (map-append Ok first second)

pub place_more : (values : List (List ℕ)) (value : List ℕ) → length (joined (values ++ value ∷ [])) ≡ length (joined values) + length value
place_more values value =
    ap length (joined-more values (value ∷ [])) ∙ length-append (joined values) (value ++ []) ∙ ap (λ (octets : List ℕ). length (joined values) + length octets) (append-nil value)

pub among : (profile : Profile) (before : List (List ℕ)) (value : List ℕ) (behind : List (List ℕ)) (file : List ℕ) (failure : Failure) → AreCertificateValues profile before → IsFailureAt profile value (length (joined before)) file failure
    → IsFailureAmong profile (before ++ value ∷ behind) file failure
among profile before value behind file (NoCertificate named rule at) read (same, (offset, refused, at_is)) =
    (same, record { before = before; value = value; behind = behind; values_are = refl; read = read; offset = offset; refused = refused; at_is = at_is })
among profile before value behind file (Refused named fault) read fails = fails
among profile before value behind file (NoRevocationList named rule at) read fails = fails
among profile before value behind file (NoResponse named rule at) read fails = fails
among profile before value behind file (NotGenuine named fault) read fails = fails
among profile before value behind file (BadLine named line) read fails = fails
among profile before value behind file BadTime read fails = fails
among profile before value behind file BadPurpose read fails = fails
among profile before value behind file (BadPolicy word) read fails = fails
among profile before value behind file (BadName stop) read fails = fails
among profile before value behind file BadTopic read fails = fails
among profile before value behind file Shut read fails = fails
among profile before value behind file NoInput read fails = fails
among profile before value behind file (Unreadable named) read fails = fails
among profile before value behind file Unwritable read fails = fails
among profile before value behind file (StoreFailed why) read fails = fails
among profile before value behind file NoMemory read fails = fails

-- ---- what a file is that begins with values

front_of : (P : List ℕ → Type 0) (before others : List (List ℕ)) → AllByRecursion P (before ++ others) → AllByRecursion P before
front_of P [] others all = tt
front_of P (value ∷ before) others all = (all.0, front_of P before others all.1)

back_of : (P : List ℕ → Type 0) (before others : List (List ℕ)) → AllByRecursion P (before ++ others) → AllByRecursion P others
back_of P [] others all = all
back_of P (value ∷ before) others all = back_of P before others all.1

-- a value among those with which the octets begin, and what is left behind it
other_in : (profile : Profile) (most : ℕ) (octets : List ℕ) (values : List (List ℕ)) (left : List ℕ) (rule : CertRule) (at : ℕ) → BeginsWithValues octets values left → length values ≤ most → IsOtherAmong profile values rule at → HoldsOther profile most octets rule at
other_in profile most octets values left rule at begins few other =
    let others = other.value ∷ other.behind in
    let all = subst (AllByRecursion (IsValueWithin longest)) other.values_are begins.each in
    let rest = joined other.behind ++ left in
    let count : length values ≡ length other.before + length others = ap length other.values_are ∙ length-append other.before others in
    let parts : joined values ≡ joined other.before ++ (other.value ++ joined other.behind) = ap joined other.values_are ∙ joined-more other.before others in
    let text_is : octets ≡ joined other.before ++ (other.value ++ rest) =
    begins.text_is ∙ ap (λ (xs : List ℕ). xs ++ left) parts ∙ append_assoc (joined other.before) (other.value ++ joined other.behind) left
    ∙ ap (λ (xs : List ℕ). joined other.before ++ xs) (append_assoc other.value (joined other.behind) left) in
    record {
      before = other.before;
      text = other.value;
      left = rest;
      begin = record {
        few = omega (arith, few, count);
        certificates = other.read.0;
        each = other.read.1;
        begins = record { each = front_of (IsValueWithin longest) other.before others all; text_is = text_is };
      };
      value = record {
        each = ((back_of (IsValueWithin longest) other.before others all).0, tt);
        text_is = ap (λ (xs : List ℕ). xs ++ rest) (sym (append-nil other.value));
      };
      offset = other.offset;
      refused = other.refused;
      at_is = other.at_is;
    }

-- ---- failures on a file that holds the octets

module _ (profile : Profile) (most : ℕ) (holds : Holding) (octets file : List ℕ) (held : holds.has file (Some octets)) where
  -- whatever the file, memory may run out
  pub of_memory : (failure : Failure) → failure ≡ NoMemory → IsFailureOnPath profile most holds file failure
  of_memory failure is = subst (IsFailureOnPath profile most holds file) (sym is) tt

  pub refused_among : (values : List (List ℕ)) (stopped : Option (ℕ × ReadFault)) (failure : Failure) → ReadUpTo most octets values stopped → IsFailureAmong profile values file failure → IsFailureOnPath profile most holds file failure
  refused_among values stopped (NoCertificate named rule at) read (same, other) = (same, (octets, held, other_in profile most octets values read.left rule at read.begins read.few other))
  refused_among values stopped (Refused named fault) read fails = of_memory (Refused named fault) fails
  refused_among values stopped (NoRevocationList named rule at) read fails = of_memory (NoRevocationList named rule at) fails
  refused_among values stopped (NoResponse named rule at) read fails = of_memory (NoResponse named rule at) fails
  refused_among values stopped (NotGenuine named fault) read fails = of_memory (NotGenuine named fault) fails
  refused_among values stopped (BadLine named line) read fails = of_memory (BadLine named line) fails
  refused_among values stopped BadTime read fails = of_memory BadTime fails
  refused_among values stopped BadPurpose read fails = of_memory BadPurpose fails
  refused_among values stopped (BadPolicy word) read fails = of_memory (BadPolicy word) fails
  refused_among values stopped (BadName stop) read fails = of_memory (BadName stop) fails
  refused_among values stopped BadTopic read fails = of_memory BadTopic fails
  refused_among values stopped Shut read fails = of_memory Shut fails
  refused_among values stopped NoInput read fails = of_memory NoInput fails
  refused_among values stopped (Unreadable named) read fails = of_memory (Unreadable named) fails
  refused_among values stopped Unwritable read fails = of_memory Unwritable fails
  refused_among values stopped (StoreFailed why) read fails = of_memory (StoreFailed why) fails
  refused_among values stopped NoMemory read fails = of_memory NoMemory fails

  -- what stands behind certificates is no value
  no_value : (values : List (List ℕ)) (place : ℕ) (rule : Rule) (at : ℕ) (fault : Fault) → ReadUpTo most octets values (Some (place, OfValue (Breaks rule at))) → AreCertificateValues profile values → fault ≡ Breaks rule (place + at) → HoldsNoValue profile most octets fault
  no_value values place rule at fault read (certificates, are) is = record {
    before = values;
    left = read.left;
    begin = record { few = read.end.0; certificates = certificates; each = are; begins = read.begins };
    broken = inl (rule, at, read.end.2, read.end.3, is ∙ ap (λ (start : ℕ). Breaks rule (start + at)) read.end.1);
  }

  told_behind : (values : List (List ℕ)) (place : ℕ) (rule : Rule) (at : ℕ) (failure : Failure) → ReadUpTo most octets values (Some (place, OfValue (Breaks rule at))) → AreCertificateValues profile values
      → IsToldOf file place (OfValue (Breaks rule at)) failure → IsFailureOnPath profile most holds file failure
  told_behind values place rule at (Refused named fault) read are (same, is) = (same, (octets, held, no_value values place rule at fault read are is))
  told_behind values place rule at (NoCertificate named other place_of) read are fails = of_memory (NoCertificate named other place_of) fails
  told_behind values place rule at (NoRevocationList named other place_of) read are fails = of_memory (NoRevocationList named other place_of) fails
  told_behind values place rule at (NoResponse named other place_of) read are fails = of_memory (NoResponse named other place_of) fails
  told_behind values place rule at (NotGenuine named fault) read are fails = of_memory (NotGenuine named fault) fails
  told_behind values place rule at (BadLine named line) read are fails = of_memory (BadLine named line) fails
  told_behind values place rule at BadTime read are fails = of_memory BadTime fails
  told_behind values place rule at BadPurpose read are fails = of_memory BadPurpose fails
  told_behind values place rule at (BadPolicy word) read are fails = of_memory (BadPolicy word) fails
  told_behind values place rule at (BadName stop) read are fails = of_memory (BadName stop) fails
  told_behind values place rule at BadTopic read are fails = of_memory BadTopic fails
  told_behind values place rule at Shut read are fails = of_memory Shut fails
  told_behind values place rule at NoInput read are fails = of_memory NoInput fails
  told_behind values place rule at (Unreadable named) read are fails = of_memory (Unreadable named) fails
  told_behind values place rule at Unwritable read are fails = of_memory Unwritable fails
  told_behind values place rule at (StoreFailed why) read are fails = of_memory (StoreFailed why) fails
  told_behind values place rule at NoMemory read are fails = of_memory NoMemory fails

  -- nothing is there at all
  empty : 0 < most → (values : List (List ℕ)) (fault : Fault) → ReadUpTo most octets values None → AreCertificateValues profile values → values ≡ [] → fault ≡ Breaks Truncated 0 → HoldsNoValue profile most octets fault
  empty some values fault read are none is = record {
    before = [];
    left = octets;
    begin = record { few = some; certificates = []; each = refl; begins = record { each = tt; text_is = refl } };
    broken = inr (nothing, is);
  }
    where
      left_is : (read.left ≡ []) ⊎ (length values ≡ most) → read.left ≡ []
      left_is (inl is) = is
      left_is (inr many) = absurd (omega (arith, some, many, ap length none))

      nothing : octets ≡ []
      nothing = read.begins.text_is ∙ ap (λ (values : List (List ℕ)). joined values ++ read.left) none ∙ left_is read.end

  pub refused_behind : 0 < most → (values : List (List ℕ)) (stopped : Option (ℕ × ReadFault)) (failure : Failure) → ReadUpTo most octets values stopped → AreCertificateValues profile values → IsFailureBehind values file stopped failure
      → IsFailureOnPath profile most holds file failure
  refused_behind some values (Some (place, OfValue (Breaks rule at))) failure read are fails = told_behind values place rule at failure read are fails
  refused_behind some values (Some (place, OfValue Memory)) failure read are fails = of_memory failure fails
  refused_behind some values (Some (place, Limit)) failure read are fails = of_memory failure fails
  refused_behind some values (Some (place, Io)) failure read are fails = of_memory failure fails
  refused_behind some values None (Refused named fault) read are (none, same, is) = (same, (octets, held, empty some values fault read are none is))
  refused_behind some values None (NoCertificate named rule at) read are fails = absurd fails
  refused_behind some values None (NoRevocationList named rule at) read are fails = absurd fails
  refused_behind some values None (NoResponse named rule at) read are fails = absurd fails
  refused_behind some values None (NotGenuine named fault) read are fails = absurd fails
  refused_behind some values None (BadLine named line) read are fails = absurd fails
  refused_behind some values None BadTime read are fails = absurd fails
  refused_behind some values None BadPurpose read are fails = absurd fails
  refused_behind some values None (BadPolicy word) read are fails = absurd fails
  refused_behind some values None (BadName stop) read are fails = absurd fails
  refused_behind some values None BadTopic read are fails = absurd fails
  refused_behind some values None Shut read are fails = absurd fails
  refused_behind some values None NoInput read are fails = absurd fails
  refused_behind some values None (Unreadable named) read are fails = absurd fails
  refused_behind some values None Unwritable read are fails = absurd fails
  refused_behind some values None (StoreFailed why) read are fails = absurd fails
  refused_behind some values None NoMemory read are fails = absurd fails
