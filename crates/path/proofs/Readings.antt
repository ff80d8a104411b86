-- Texts that are read one after another, each by the same walk.
use Rattle.std.proofs.Common.{Bool, true, if◌then◌else◌, ◌≡◌, ℕ, zero, suc, ◌+◌, ◌<◌, List, [], ◌∷◌, ◌++◌, map, length, take, get_or, arith, sym, ap, subst, ◌∙◌, Result, Ok, is_ok, IsOk, length-take}
use denote.Ref.{Bor}
use Rattle.std.proofs.lemmas.List.{get_or-take, get_or-map, length-map, map_more, map-append}
use Rattle.statements_facts.specs.declared.profile.Profile.{Profile}
use Rattle.cert.specs.declared.fault.CertFault.{CertFault}
use Rattle.cert.specs.declared.fault.CertFault.TheVariants.{Memory}
use Rattle.cert.specs.declared.fault.CertRule.{CertRule}
use Rattle.cert.specs.declared.certificate.Certificate as code
use Rattle.cert.specs.Fault.{FailsUnlessFull}
use Rattle.cert.specs.Certificate.{Certificate, seen_certificate}
use Rattle.path.specs.InProfile.{certificate_in}
use Rattle.path.specs.Reading.{texts_of}
use Rattle.path.specs.ProfileReading.{AreReadIn, IsPathRefused}

abbrev Walk : Type 0
Walk = List ℕ → Result Certificate (CertRule × ℕ)

abbrev done : Certificate → Result Certificate (CertRule × ℕ)
done c = Ok c

-- what a list is after a push that succeeded
pub pushed : {A : Type 0} (ok : Bool) (more same now : List A) → ok ≡ true → now ≡ (if ok then more else same) → now ≡ more
pushed ok more same now is e = e ∙ ap (λ b. if b then more else same) is

-- each text is read
pub is_read : (walk : Walk) (texts : List (List ℕ)) (all : List Certificate) → map walk texts ≡ map done all → (i : ℕ) → i < length texts → IsOk (walk (get_or texts i []))
is_read walk [] all e i below = absurd (omega arith)
is_read walk (text ∷ texts) [] e i below = absurd cc
is_read walk (text ∷ texts) (one ∷ all) e zero below = let head : walk text ≡ done one = cc in ap is_ok head
is_read walk (text ∷ texts) (one ∷ all) e (suc i) below = let rest : map walk texts ≡ map done all = cc in is_read walk texts all rest i (omega arith)

-- ---- slices of octets, read in a profile

-- the first of the texts, so many, are these
abbrev pub ReadSoFar : Profile → List (Bor (List ℕ)) → ℕ → List code.Certificate → Type 0
ReadSoFar profile path i all = AreReadIn profile (take i (texts_of path)) (map seen_certificate all)

text_is : (path : List (Bor (List ℕ))) (i : ℕ) (d : Bor (List ℕ)) → i < length path → (get_or path i d).now ≡ get_or (texts_of path) i []
text_is path i d below = sym (get_or-map (λ (text : Bor (List ℕ)). text.now) path i d [] below)

texts_count : (path : List (Bor (List ℕ))) (i : ℕ) → i < length path → i < length (texts_of path)
texts_count path i below = omega (arith, length-map path (λ (text : Bor (List ℕ)). text.now))

grown : (all : List code.Certificate) (one : code.Certificate) → map done (map seen_certificate (all ++ one ∷ [])) ≡ map done (map seen_certificate all) ++ done (seen_certificate one) ∷ []
grown all one = ap (map done) (map-append seen_certificate all (one ∷ [])) ∙ map-append done (map seen_certificate all) (seen_certificate one ∷ [])

pub one_more : (profile : Profile) (path : List (Bor (List ℕ))) (i : ℕ) (d : Bor (List ℕ)) (all now : List code.Certificate) (one : code.Certificate) → i < length path
    → certificate_in profile (get_or path i d).now ≡ Ok (seen_certificate one) → now ≡ all ++ one ∷ [] → ReadSoFar profile path i all → ReadSoFar profile path (i + 1) now
one_more profile path i d all now one below reads is so_far =
    let texts = texts_of path in
    let walk : Walk = certificate_in profile in
    let here : walk (get_or texts i []) ≡ done (seen_certificate one) = ap walk (sym (text_is path i d below)) ∙ reads in
    map_more walk texts i [] (texts_count path i below) ∙ (λ k. so_far k ++ here k ∷ []) ∙ sym (grown all one) ∙ ap (λ (l : List code.Certificate). map done (map seen_certificate l)) (sym is)

refused_there : (profile : Profile) (path : List (Bor (List ℕ))) (i : ℕ) (all : List code.Certificate) (fault : CertFault) → i < length path
    → FailsUnlessFull fault (certificate_in profile (get_or (texts_of path) i [])) → ReadSoFar profile path i all → IsPathRefused profile (texts_of path) i fault
refused_there profile path i all fault below fails so_far =
    let texts = texts_of path in
    let within = texts_count path i below in
    let walk : Walk = certificate_in profile in
    record {
      within = within;
      refused = fails;
      before = λ k earlier. let len = length-take i texts in
          subst (λ t. IsOk (walk t)) (get_or-take i texts k [] earlier) (is_read walk (take i texts) (map seen_certificate all) so_far k (omega arith));
    }

pub refused_at : (profile : Profile) (path : List (Bor (List ℕ))) (i : ℕ) (d : Bor (List ℕ)) (all : List code.Certificate) (fault : CertFault) → i < length path
    → FailsUnlessFull fault (certificate_in profile (get_or path i d).now) → ReadSoFar profile path i all → IsPathRefused profile (texts_of path) i fault
refused_at profile path i d all fault below fails so_far =
    refused_there profile path i all fault below (subst (λ t. FailsUnlessFull fault (certificate_in profile t)) (text_is path i d below) fails) so_far

pub no_room : (profile : Profile) (path : List (Bor (List ℕ))) (i : ℕ) (all : List code.Certificate) → i < length path → ReadSoFar profile path i all → IsPathRefused profile (texts_of path) i Memory
no_room profile path i all below so_far = refused_there profile path i all Memory below tt so_far
