-- The certificates of a candidate's path, from its anchor downward.
use Rattle.std.proofs.Common.{◌≡◌, ℕ, suc, ◌+◌, ◌<◌, List, [], ◌∷◌, ◌++◌, length, take, get_or, reverse, slice_index_or, arith, sym, ap, ◌∙◌, append_assoc}
use Rattle.std.proofs.lemmas.List.{get_or-map, length-map, reverse-append, take_all, take_more}
use Rattle.cert.specs.Certificate.{Certificate}
use Rattle.path_issuers.specs.Search.{certificates_at}
use Rattle.relying_agreement.specs.Link.{Link, links_from}

abbrev pub link_of : ℕ → Certificate → Certificate → Link
link_of number issuer certificate = record { number = number; issuer = issuer; certificate = certificate }

-- the links that are made, and those of the certificates that are left, which are given from the target upward
abbrev pub with_left : List Link → ℕ → Certificate → Certificate → List Certificate → List Link
with_left made number issuer target left = made ++ links_from number issuer (reverse (target ∷ left))

-- of those that are left the last one stands at the top
top_first : (target : Certificate) (certs : List Certificate) (k : ℕ) (c : Certificate) → k < length certs → get_or certs k target ≡ c
    → reverse (target ∷ take (k + 1) certs) ≡ c ∷ reverse (target ∷ take k certs)
top_first target certs k c below is =
    ap (λ left. reverse (target ∷ left)) (take_more certs k target below ∙ ap (λ one. take k certs ++ one ∷ []) is)
    ∙ reverse-append (target ∷ take k certs) (c ∷ [])

pub one_link : (made now : List Link) (number left next : ℕ) (issuer c target : Certificate) (certs : List Certificate) (whole : List Link)
    → next < length certs → left ≡ next + 1 → get_or certs next target ≡ c → now ≡ made ++ link_of number issuer c ∷ []
    → with_left made number issuer target (take left certs) ≡ whole → with_left now (number + 1) c target (take next certs) ≡ whole
one_link made now number left next issuer c target certs whole below left_is is pushed so_far =
    let later : number + 1 ≡ suc number = omega arith in
    ap (λ l. l ++ links_from (number + 1) c (reverse (target ∷ take next certs))) pushed
    ∙ append_assoc made (link_of number issuer c ∷ []) (links_from (number + 1) c (reverse (target ∷ take next certs)))
    ∙ ap (λ n. made ++ link_of number issuer c ∷ links_from n c (reverse (target ∷ take next certs))) later
    ∙ ap (λ l. made ++ links_from number issuer l) (sym (top_first target certs next c below is))
    ∙ ap (λ n. with_left made number issuer target (take n certs)) (sym left_is)
    ∙ so_far

-- the last link is that of the target
pub last_link : (made now : List Link) (number left : ℕ) (issuer target : Certificate) (certs : List Certificate) (whole : List Link)
    → left ≡ 0 → now ≡ made ++ link_of number issuer target ∷ [] → with_left made number issuer target (take left certs) ≡ whole → now ≡ whole
last_link made now number left issuer target certs whole none pushed so_far =
    pushed ∙ ap (λ n. with_left made number issuer target (take n certs)) (sym none) ∙ so_far

-- before the first link all certificates are left
pub none_yet : (issuer target : Certificate) (certs : List Certificate) (count : ℕ) → count ≡ length certs
    → with_left [] 1 issuer target (take count certs) ≡ links_from 1 issuer (reverse (target ∷ certs))
none_yet issuer target certs count is = ap (λ left. links_from 1 issuer (reverse (target ∷ left))) (take_all count certs (omega (arith, is)))

-- the certificates at places
pub count_at : (target : Certificate) (bag : List Certificate) (places : List ℕ) → length (certificates_at target bag places) ≡ length places
count_at target bag places = length-map places (λ place. slice_index_or bag place target)

pub at_place : (target c : Certificate) (bag : List Certificate) (places : List ℕ) (k place : ℕ) → k < length places → get_or places k place ≡ place
    → c ≡ slice_index_or bag place target → get_or (certificates_at target bag places) k target ≡ c
at_place target c bag places k place below is here =
    get_or-map (λ one. slice_index_or bag one target) places k place target below ∙ ap (λ one. slice_index_or bag one target) is ∙ sym here
