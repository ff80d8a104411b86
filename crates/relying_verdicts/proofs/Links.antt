-- What bears on the certificates of a path that were looked at.
use Rattle.std.proofs.Common.{◌≡◌, ℕ, suc, ◌+◌, ◌<◌, ◌≤◌, List, [], ◌∷◌, ◌++◌, map, length, take, get_or, reverse, ◌≢◌, arith, refl, sym, ap, ◌∙◌}
use Rattle.std.proofs.lemmas.List.{map_more, map-append, take_all, length-map, length-reverse}
use Rattle.cert.specs.Certificate.{Certificate, seen_certificate}
use Rattle.cert.specs.declared.certificate.Certificate as code
use Rattle.statements_facts.specs.Statement.{Holdings}
use Rattle.relying_agreement.specs.Link.{Link, links_from}
use Rattle.relying_agreement.specs.Status.{Evidence, evidence_of}
use Rattle.relying_search.specs.declared.evidence.Evidence as known
use Rattle.relying_search.specs.declared.link.Link as linked
use Rattle.relying_search.specs.View.{seen_evidence, seen_link}

-- what was found bears on the certificates up to a number
abbrev pub IsSoFar : List linked.Link → ℕ → Holdings → List known.Evidence → Type 0
IsSoFar links i held all = map seen_evidence all ≡ map (λ link. evidence_of held (seen_link link)) (take i links)

pub goes_on : (links : List linked.Link) (i : ℕ) (next : linked.Link) (held : Holdings) (all : List known.Evidence) (it : known.Evidence)
    → i < length links → next ≡ get_or links i next → seen_evidence it ≡ evidence_of held (seen_link next)
    → IsSoFar links i held all → IsSoFar links (i + 1) held (all ++ it ∷ [])
goes_on links i next held all it below is seen so_far =
    map-append seen_evidence all (it ∷ [])
    ∙ ap (λ l. l ++ seen_evidence it ∷ []) so_far
    ∙ ap (λ one. map (λ link. evidence_of held (seen_link link)) (take i links) ++ one ∷ []) (seen ∙ ap (λ link. evidence_of held (seen_link link)) is)
    ∙ sym (map_more (λ link. evidence_of held (seen_link link)) links i next below)

mapped : (f : Link → Evidence) (links : List linked.Link) → map (λ link. f (seen_link link)) links ≡ map f (map seen_link links)
mapped f [] = refl
mapped f (link ∷ links) = ap (λ more. f (seen_link link) ∷ more) (mapped f links)

pub ends : (links : List linked.Link) (i : ℕ) (held : Holdings) (all : List known.Evidence) → length links ≤ i → IsSoFar links i held all
    → map seen_evidence all ≡ map (evidence_of held) (map seen_link links)
ends links i held all le so_far =
    so_far ∙ ap (map (λ link. evidence_of held (seen_link link))) (take_all i links le) ∙ mapped (evidence_of held) links

-- there are as many links as certificates
pub links_count : (j : ℕ) (issuer : Certificate) (path : List Certificate) → length (links_from j issuer path) ≡ length path
links_count j issuer [] = refl
links_count j issuer (certificate ∷ path) = let more = links_count (suc j) certificate path in omega (arith, more)

pub as_many : (links : List linked.Link) (issuer : Certificate) (path : List code.Certificate)
    → map seen_link links ≡ links_from 1 issuer (map seen_certificate path) → length links ≡ length path
as_many links issuer path is =
    let seen = length-map links seen_link in
    let same = ap (λ l. length l) is in
    let made = links_count 1 issuer (map seen_certificate path) in
    let read = length-map path seen_certificate in
    omega (arith, seen, same, made, read)

-- the path of a candidate has a certificate
pub some_link : (links : List linked.Link) (issuer target : Certificate) (above : List Certificate)
    → map seen_link links ≡ links_from 1 issuer (reverse (target ∷ above)) → links ≢ []
some_link [] issuer target above is =
    let same = ap (λ l. length l) is in
    let made = links_count 1 issuer (reverse (target ∷ above)) in
    let turned = length-reverse (target ∷ above) in
    λ e. omega (arith, same, made, turned)
some_link (link ∷ links) issuer target above is = λ e. cc
