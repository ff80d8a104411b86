-- The octets of texts, one text more at a time.
use Rattle.std.proofs.Common.{◌≡◌, ◌+◌, ◌<◌, ℕ, suc, List, [], ◌∷◌, ◌++◌, length, drop, get_or, arith, sym, ap, subst, ◌∙◌, append_assoc}
use denote.Ref.{Bor}
use Rattle.std.proofs.Math.Seq.{drop-cons}
use Rattle.std.proofs.lemmas.List.{map-append}
use Rattle.asn.specs.DerLaws.{AreOctets}
use Rattle.path.specs.Reading.{texts_of}
use Rattle.capi_values.specs.Texts.{AreAllOctets, octets_of_texts}
use Rattle.capi_values.specs.declared.texts.Text.{Text}

-- the next of those that are left
pub next_left : {A : Type 0} (xs : List A) (i : ℕ) (d : A) → i < length xs → drop i xs ≡ get_or xs i d ∷ drop (i + 1) xs
next_left xs i d below =
    let later : suc i ≡ i + 1 = omega arith in
    drop-cons xs i d below ∙ ap (λ n. get_or xs i d ∷ drop n xs) later

pub one_more : (octets new : List (Bor (List ℕ))) (one : Bor (List ℕ)) (texts : List Text) (whole : List (List ℕ)) (i : ℕ) (d : Text) → i < length texts → new ≡ octets ++ one ∷ [] → one ≡ (get_or texts i d).octets
    → texts_of octets ++ octets_of_texts (drop i texts) ≡ whole → texts_of new ++ octets_of_texts (drop (i + 1) texts) ≡ whole
one_more octets new one texts whole i d below grown is so_far =
    let left = drop (i + 1) texts in
    ap (λ them. texts_of them ++ octets_of_texts left) grown
    ∙ ap (λ front. front ++ octets_of_texts left) (map-append (λ (text : Bor (List ℕ)). text.now) octets (one ∷ []))
    ∙ append_assoc (texts_of octets) (one.now ∷ []) (octets_of_texts left)
    ∙ ap (λ (it : Bor (List ℕ)). texts_of octets ++ (it.now ∷ octets_of_texts left)) is
    ∙ ap (λ rest. texts_of octets ++ octets_of_texts rest) (sym (next_left texts i d below))
    ∙ so_far

with_one : (octets : List (Bor (List ℕ))) (one : Bor (List ℕ)) → AreAllOctets (texts_of octets) → AreOctets one.now → AreAllOctets (texts_of (octets ++ one ∷ []))
with_one [] one all fits = (fits, tt)
with_one (first ∷ octets) one all fits = (all.0, with_one octets one all.1 fits)

pub one_more_fits : (octets new : List (Bor (List ℕ))) (one : Bor (List ℕ)) → new ≡ octets ++ one ∷ [] → AreAllOctets (texts_of octets) → AreOctets one.now → AreAllOctets (texts_of new)
one_more_fits octets new one grown all fits = subst (λ them. AreAllOctets (texts_of them)) (sym grown) (with_one octets one all fits)
