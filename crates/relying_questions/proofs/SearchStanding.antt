-- The certificates of a search have their parts in their texts.
use Rattle.std.proofs.Common.{◌≡◌, ◌+◌, ◌<◌, ℕ, suc, Bool, true, false, List, [], ◌∷◌, length, get_or, if◌then◌else◌, ltb, arith, refl, ap, sym, ◌∙◌, subst, length-append}
use Rattle.std.proofs.Math.ListN.{get_or-append, get_or-eq_default}
use Rattle.std.proofs.Math.Seq.{get_or-append_seam}
use Rattle.std.proofs.lemmas.Bool.{ltb-false, ltb-true}
use Rattle.std.proofs.lemmas.List.{get_or-append-add, get_or-map}
use Rattle.std.proofs.lemmas.List.Elements.{All-from_recursion}
use Rattle.cert.specs.Certificate.{Certificate}
use Rattle.path_issuers.specs.Links.{certificate_at}
use Rattle.path_issuers.specs.Questions.{IsThere, issuer_at}
use Rattle.path_issuers.specs.Search.{Search}
use Rattle.path_issuers.specs.declared.question.Issuer.{Issuer}
use Rattle.path_issuers.specs.declared.question.Issuer.TheVariants.{Anchor, Bag}
use Rattle.relying_questions.specs.Issuers.{text_at, text_of}
use Rattle.relying_questions.specs.Places.{HasParts, SearchStands, Texts, WasReadInSomeProfile}
use Rattle.relying_questions.specs.Places.{WereReadForSearch, certificate_text, certificates_of, texts_searched}
use Rattle.relying_questions.proofs.Kept.{placed}

-- the one with a number
numbered : (s : Search) (octets : List (List ℕ)) (n : ℕ) (c : Certificate) → WereReadForSearch s → n < length (certificates_of s)
    → get_or (certificates_of s) n s.target ≡ c → HasParts (certificate_text (texts_searched s octets) n) c
numbered s octets n c were within is =
    subst (HasParts (certificate_text (texts_searched s octets) n)) is
    (placed (certificate_text (texts_searched s octets) n) (get_or (certificates_of s) n s.target)
    (get_or-map (λ (one : Certificate). one.octets) (certificates_of s) n s.target [] within)
    (All-from_recursion WasReadInSomeProfile (certificates_of s) were n s.target within))

pub search_stands : (s : Search) (octets : List (List ℕ)) → WereReadForSearch s → SearchStands (texts_searched s octets) s
search_stands s octets were =
    let size : length (certificates_of s) ≡ length s.anchors + length (s.target ∷ s.bag) = length-append s.anchors (s.target ∷ s.bag) in
    record {
      anchors = λ place below. numbered s octets place _ were (omega (arith, below, size)) (get_or-append s.anchors (s.target ∷ s.bag) s.target place below);
      target = numbered s octets (length s.anchors) s.target were (omega (arith, size)) (get_or-append_seam s.anchors s.target s.bag s.target);
      bag = λ place below. numbered s octets (length s.anchors + 1 + place) (certificate_at s place) were (omega (arith, below, size))
          (ap (λ (n : ℕ). get_or (certificates_of s) n s.target) (behind_target (length s.anchors) place)
          ∙ get_or-append-add s.anchors (s.target ∷ s.bag) (suc place) s.target);
    }
  where
    behind_target : (n place : ℕ) → n + 1 + place ≡ n + suc place
    behind_target n place = omega arith

-- the one at a place of the bag, or the target
pub place_stands : (texts : Texts) (s : Search) (place : ℕ) → SearchStands texts s → HasParts (certificate_text texts (text_at s place)) (certificate_at s place)
place_stands texts s place stands = by (ltb place (length s.bag)) refl where
  by : (b : Bool) → ltb place (length s.bag) ≡ b
      → HasParts (certificate_text texts (if b then length s.anchors + 1 + place else length s.anchors)) (certificate_at s place)
  by true e = stands.bag place (ltb-true place (length s.bag) e)
  by false e =
      subst (HasParts (certificate_text texts (length s.anchors))) (sym (get_or-eq_default s.bag s.target (ltb-false place (length s.bag) e))) stands.target

-- and that of an issuer
pub issuer_stands : (texts : Texts) (s : Search) (issuer : Issuer) → SearchStands texts s → IsThere s issuer → HasParts (certificate_text texts (text_of s issuer)) (issuer_at s issuer)
issuer_stands texts s (Anchor place) stands there = stands.anchors place there
issuer_stands texts s (Bag place) stands there = place_stands texts s place stands
