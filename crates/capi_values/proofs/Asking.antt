-- Questions whose parts stand in texts, as places of these.
use Rattle.std.proofs.Common.{◌≡◌, ◌+◌, ◌-◌, ◌<◌, min, ℕ, zero, suc, List, [], ◌∷◌, ◌++◌, Ok, length, map, take, drop, get_or, slice_index_or, slice_range, set, refl, sym, ap, ◌∙◌, subst, inl, inr, arith, take_all, append_assoc}
use Rattle.std.specs.List.{AllByRecursion}
use Rattle.std.proofs.lemmas.List.{length-append, length-map, take-append-le, take_more, take_more_set, drop-set, take_min, drop_min, length-set, take-append-drop}
use Rattle.asn.specs.DerLaws.{AreOctets}
use Rattle.asn.specs.Part.{IsPartOf}
use Rattle.cert.specs.Certificate.{Certificate, certificate}
use Rattle.cert.specs.declared.fault.CertRule.{CertRule}
use Rattle.cert.proofs.Laws.{certificate_is_exact}
use Rattle.statements.specs.Statement.{Statement, statement_under}
use Rattle.statements_facts.specs.declared.profile.Profile.{Profile}
use Rattle.statements_facts.specs.declared.profile.Profile.TheVariants.{Stated, Wide}
use Rattle.path.specs.Query.{Query}
use Rattle.path.specs.InProfile.{certificate_in}
use Rattle.path.proofs.Laws.{stated_too}
use Rattle.relying_questions.specs.Places.{AllInTexts, AreInTexts, Stands, WasReadInSomeProfile}
use Rattle.relying_questions.specs.Places.{WereRead, WereStatementsRead, certificate_octets, texts_at, texts_in}
use Rattle.relying_questions.specs.Questions.{questions_of}
use Rattle.relying_questions.specs.Seen.{seen_all, seen_question}
use Rattle.relying_questions.specs.declared.part.TextPart as of_text
use Rattle.relying_questions.specs.declared.part.WhichText.{WhichText}
use Rattle.relying_questions.specs.declared.part.WhichText.TheVariants as source
use Rattle.relying_questions.specs.declared.question.SignatureQuestion as asked
use Rattle.relying_texts.specs.Reading.{AreStatementsReadUnder}
use Rattle.capi_values.specs.Parts.{IsPart}
use Rattle.capi_values.specs.Questions.{AreTold, AreWritten, IsPlace, TellEach, TellsQuestion, place_of, question_of, text_index, text_number}
use Rattle.capi_values.specs.Texts.{AreAllOctets, IsRead, all_read, certificate_texts, octets_of_texts, profile_of, readings_under}
use Rattle.capi_values.specs.declared.questions.SignatureQuestion.{SignatureQuestion}
use Rattle.capi_values.specs.declared.texts.QueryOfTexts as code
use Rattle.capi_values.specs.declared.texts.Text.{Text}
use Rattle.capi_values.proofs.Readings.{query_read}

-- ---- parts of a text

behind_front : (front octets : List ℕ) → drop (length front) (front ++ octets) ≡ octets
behind_front [] octets = refl
behind_front (octet ∷ front) octets = behind_front front octets

cut_out : (before octets behind : List ℕ) → slice_range (before ++ octets ++ behind) (length before) (length before + length octets) ≡ octets
cut_out before octets behind =
    let size : length before + length octets - length before ≡ length octets = omega arith in
    ap (λ (text : List ℕ). take (length before + length octets - length before) (drop (length before) text)) (append_assoc before octets behind)
    ∙ ap (take (length before + length octets - length before)) (behind_front before (octets ++ behind))
    ∙ ap (λ (n : ℕ). take n (octets ++ behind)) size
    ∙ take-append-le (length octets) octets behind (omega arith)
    ∙ take_all (length octets) octets (omega arith)

is_part : (text : List ℕ) (at : ℕ) (octets : List ℕ) → IsPartOf text at octets → IsPart text (record { offset = at; length = length octets }) octets
is_part text at octets is = record {
  within = omega (arith, is.place, ap length is.joined, length-append is.before octets, length-append (is.before ++ octets) is.behind);
  octets_are =
      ap (λ (t : List ℕ). slice_range t at (at + length octets)) is.joined
      ∙ ap (λ (n : ℕ). slice_range (is.before ++ octets ++ is.behind) n (n + length octets)) (sym is.place)
      ∙ cut_out is.before octets is.behind;
}

-- ---- texts that are there

-- no part of no octets but the empty one at its begin
is_there : (texts : List (List ℕ)) (i at : ℕ) (octets : List ℕ) → IsPartOf (slice_index_or texts i []) at octets → 0 < at + length octets → i < length texts
is_there [] i at octets is some = absurd (omega (arith, some, is.place, ap length is.joined, length-append is.before octets, length-append (is.before ++ octets) is.behind))
is_there (text ∷ texts) zero at octets is some = omega arith
is_there (text ∷ texts) (suc i) at octets is some = omega (arith, is_there texts i at octets is some)

placed : (certificates statements : List (List ℕ)) (from : WhichText) (at : ℕ) (octets : List ℕ) → IsPartOf (texts_at certificates statements from) at octets → 0 < at + length octets
    → IsPlace certificates statements (record { text = text_number from; index = text_index from; offset = at; length = length octets }) octets
placed certificates statements (source.Certificate i) at octets is some = record {
  text = slice_index_or certificates i [];
  is_text = inl (refl, (is_there certificates i at octets is some, refl));
  is_part = is_part (slice_index_or certificates i []) at octets is;
}
placed certificates statements (source.Statement i) at octets is some = record {
  text = slice_index_or statements i [];
  is_text = inr (refl, (is_there statements i at octets is some, refl));
  is_part = is_part (slice_index_or statements i []) at octets is;
}

place_tells : (certificates statements : List (List ℕ)) (part : of_text.TextPart) → Stands (texts_at certificates statements) part → IsPlace certificates statements (place_of part) part.octets.now
place_tells certificates statements part is = placed certificates statements part.source part.at part.octets.now is.is_part is.is_there

-- ---- questions

tells : (certificates statements : List (List ℕ)) (one : asked.SignatureQuestion) → AreInTexts (texts_at certificates statements) one → TellsQuestion certificates statements (question_of one) (seen_question one)
tells certificates statements one is = record {
  algorithm = place_tells certificates statements one.algorithm is.algorithm;
  key_info = place_tells certificates statements one.key_info is.key_info;
  message = place_tells certificates statements one.message is.message;
  signature = place_tells certificates statements one.signature is.signature;
  fingerprint = refl;
}

tell_each : (certificates statements : List (List ℕ)) (asked : List asked.SignatureQuestion) → AllInTexts (texts_at certificates statements) asked
    → TellEach certificates statements (map question_of asked) (seen_all asked)
tell_each certificates statements [] all = tt
tell_each certificates statements (one ∷ asked) all = (tells certificates statements one all.0, tell_each certificates statements asked all.1)

-- ---- what was read from texts

abbrev IsOfText : List ℕ → Certificate → Type 0
IsOfText text it = WasReadInSomeProfile it × (it.octets ≡ text)

-- it is one that was read, but for its constraints and points
abbrev IsLike : Certificate → Certificate → Type 0
IsLike read it = it ≡ record read { extensions = it.extensions; points = it.points; hosts = it.hosts }

is_of_text : (text : List ℕ) (read it : Certificate) → AreOctets text → certificate text ≡ Ok read → IsLike read it → IsOfText text it
is_of_text text read it fits reads same =
    let is = ((certificate_is_exact text read fits).0 reads).layout.fields_are in (
      record { read = read; was_read = record { octets = text; are_octets = fits; reads = reads }; same = same },
      ap (λ (c : Certificate). c.octets) same ∙ ap (λ (c : Certificate). c.octets) is,
    )

read_from : (profile : Profile) (text : List ℕ) (it : Certificate) → AreOctets text → certificate_in profile text ≡ Ok it → IsOfText text it
read_from Stated text it fits reads = is_of_text text it it fits reads refl
read_from Wide text it fits reads =
    let stated = stated_too text it reads in
    is_of_text text stated.0 it fits stated.1 stated.2

abbrev AreOfTexts : List (List ℕ) → List Certificate → Type 0
AreOfTexts texts these = AllByRecursion WasReadInSomeProfile these × (certificate_octets these ≡ texts)

one_more : (text : List ℕ) (it : Certificate) (texts : List (List ℕ)) (these : List Certificate) → IsOfText text it → AreOfTexts texts these
    → AreOfTexts (text ∷ texts) (it ∷ these)
one_more text it texts these first rest = (
  (first.0, rest.0),
  ap (λ (octets : List ℕ). octets ∷ certificate_octets these) first.1 ∙ ap (λ (others : List (List ℕ)). text ∷ others) rest.1,
)

read_in_order : (profile : Profile) (texts : List (List ℕ)) (these : List Certificate) → AllByRecursion AreOctets texts
    → readings_under profile texts ≡ all_read these → AreOfTexts texts these
read_in_order profile [] [] fits each = (tt, refl)
read_in_order profile [] (it ∷ these) fits each = absurd (omega (arith, ap length each))
read_in_order profile (text ∷ texts) [] fits each = absurd (omega (arith, ap length each))
read_in_order profile (text ∷ texts) (it ∷ these) fits each =
    let read : certificate_in profile text ≡ Ok it = cc in
    let others : readings_under profile texts ≡ all_read these = cc in
    one_more text it texts these (read_from profile text it fits.0 read) (read_in_order profile texts these fits.1 others)

-- certificates that were read from octets have these octets
pub were_read : (profile : Profile) (anchors others : List (List ℕ)) (these : List Certificate) → AllByRecursion AreOctets (anchors ++ others)
    → readings_under Stated anchors ++ readings_under profile others ≡ all_read these → AreOfTexts (anchors ++ others) these
were_read profile [] others these fits each = read_in_order profile others these fits each
were_read profile (text ∷ anchors) others [] fits each = absurd (omega (arith, ap length each))
were_read profile (text ∷ anchors) others (it ∷ these) fits each =
    let read : certificate_in Stated text ≡ Ok it = cc in
    let rest : readings_under Stated anchors ++ readings_under profile others ≡ all_read these = cc in
    one_more text it (anchors ++ others) these (read_from Stated text it fits.0 read) (were_read profile anchors others these fits.1 rest)

pub were_statements_read : (profile : Profile) (texts : List (List ℕ)) (these : List Statement) → AllByRecursion AreOctets texts
    → AreStatementsReadUnder profile texts these → WereStatementsRead texts these
were_statements_read profile [] [] octets each = tt
were_statements_read profile [] (it ∷ these) octets each = absurd (omega (arith, ap length each))
were_statements_read profile (text ∷ texts) [] octets each = absurd (omega (arith, ap length each))
were_statements_read profile (text ∷ texts) (it ∷ these) octets each =
    let read : statement_under profile text ≡ Ok it = cc in
    let others : AreStatementsReadUnder profile texts these = cc in
    (record { profile = profile; are_octets = octets.0; reads = read }, were_statements_read profile texts these octets.1 others)

-- ---- an array that is written from the first on

-- the first of it are these, and the others as they were
pub record AreFirst {X : Type 0} (n : ℕ) (these old new : List X) : Type 0 where
  pub first : take n new ≡ take n these
  pub others : drop n new ≡ drop n old
  pub long : length new ≡ length old

tail_of : {X : Type 0} (n : ℕ) (xs : List X) → drop (suc n) xs ≡ drop 1 (drop n xs)
tail_of zero xs = refl
tail_of (suc n) [] = refl
tail_of (suc n) (x ∷ xs) = tail_of n xs

pub none_written : {X : Type 0} (these old : List X) → AreFirst 0 these old old
none_written these old = record { first = refl; others = refl; long = refl }

pub one_written : {X : Type 0} (n : ℕ) (these old new : List X) (y : X) → AreFirst n these old new → n < length these → n < length new → y ≡ get_or these n y
    → AreFirst (n + 1) these old (set new n y)
one_written n these old new y are below room is = record {
  first = take_more_set new n y room ∙ ap (λ front. front ++ y ∷ []) are.first ∙ ap (λ it. take n these ++ it ∷ []) is ∙ sym (take_more these n y below);
  others =
      ap (λ k. drop k (set new n y)) next ∙ tail_of n (set new n y) ∙ ap (drop 1) (drop-set new n y room)
      ∙ ap (λ k. drop k new) next ∙ tail_of n new ∙ ap (drop 1) are.others ∙ sym (tail_of n old) ∙ ap (λ k. drop k old) (sym next);
  long = length-set new n y ∙ are.long;
}
  where
    next : n + 1 ≡ suc n
    next = omega arith

pub all_written : {X : Type 0} (n : ℕ) (these old new : List X) → AreFirst n these old new → n ≡ min (length these) (length old)
    → new ≡ take (length old) these ++ drop (length these) old
all_written n these old new are is =
    let other : n ≡ min (length old) (length these) = omega (arith, is) in
    sym (take-append-drop n new)
    ∙ ap (λ front. front ++ drop n new) are.first
    ∙ ap (λ behind. take n these ++ behind) are.others
    ∙ ap (λ front. front ++ drop n old) (ap (λ k. take k these) other ∙ take_min (length old) these)
    ∙ ap (λ behind. take (length old) these ++ behind) (ap (λ k. drop k old) is ∙ drop_min (length these) old)

pub get_map : {X Y : Type 0} (f : X → Y) (xs : List X) (i : ℕ) (d : X) (e : Y) → i < length xs → f (get_or xs i d) ≡ get_or (map f xs) i e
get_map f [] i d e below = absurd (omega (arith, below))
get_map f (x ∷ xs) zero d e below = refl
get_map f (x ∷ xs) (suc i) d e below = get_map f xs i d e (omega (arith, below))

-- ---- what is written and told

pub are_told : (certificates statements : List (List ℕ)) (asked : List asked.SignatureQuestion) (old new : List SignatureQuestion) (count : ℕ) → AllInTexts (texts_at certificates statements) asked
    → new ≡ take (length old) (map question_of asked) ++ drop (length asked) old → count ≡ length asked → AreTold certificates statements (seen_all asked) old new count
are_told certificates statements asked old new count stand written count_is = record {
  questions = map question_of asked;
  tell_each = tell_each certificates statements asked stand;
  written = record {
    written = written ∙ ap (λ (n : ℕ). take (length old) (map question_of asked) ++ drop n old) (sym (length-map asked question_of));
    count_is = count_is ∙ sym (length-map asked question_of);
  };
}

pub are_written : (query : code.QueryOfTexts) (statements : List Text) (read : Query) (these : List Statement) (asked : List asked.SignatureQuestion) (old new : List SignatureQuestion) (count : ℕ)
    → AreAllOctets (certificate_texts query) × AreAllOctets (octets_of_texts statements) → IsRead query statements read these → seen_all asked ≡ questions_of read these
    → ((octets : List (List ℕ)) → WereRead read → WereStatementsRead octets these → AllInTexts (texts_in read octets) asked)
    → new ≡ take (length old) (map question_of asked) ++ drop (length asked) old → count ≡ length asked → AreWritten query statements old new count
are_written query statements read these asked old new count fit is are places written count_is = record {
  read = read;
  these = these;
  is_read = is;
  asked = seen_all asked;
  may_be_asked = λ moment purpose. are;
  told = are_told (certificate_texts query) (octets_of_texts statements) asked old new count stand written count_is;
}
  where
    profile : Profile
    profile = profile_of query.wide

    certificates : AreOfTexts (certificate_texts query) (read.anchor ∷ read.certificates)
    certificates = were_read profile (query.anchor.octets.now ∷ []) (octets_of_texts query.path.now) (read.anchor ∷ read.certificates) fit.0
        (query_read query read is.query_is)

    stand : AllInTexts (texts_at (certificate_texts query) (octets_of_texts statements)) asked
    stand =
        subst (λ (them : List (List ℕ)). AllInTexts (texts_at them (octets_of_texts statements)) asked) certificates.1
        (places (octets_of_texts statements) certificates.0 (were_statements_read profile (octets_of_texts statements) these fit.1 is.statements_are))
