-- Hosts as texts: the dots that none has at its begin or end, and when two are the same.
use Rattle.std.proofs.Common.{◌≡◌, ◌-◌, ◌+◌, ◌<◌, ℕ, List, [], ◌∷◌, ◌++◌, length, take, get_or, Bool, true, false, refl, sym, ◌∙◌, ap, subst, arith, if◌then◌else◌, length-append}
use Rattle.std.specs.List.{slice_split, join_with_byte}
use Rattle.std.proofs.lemmas.Bool.{eqb-true}
use Rattle.std.proofs.lemmas.List.{take_more, take_all, get_or_at}
use Rattle.std.proofs.lemmas.List.Splits.{slice_split-cons_yes, join_with_byte-slice_split}
use Rattle.names.specs.Dns.{labels, is_dot}
use Rattle.names_distinguished.proofs.Laws.{slice_split-append}
use Rattle.names_identity.specs.Host.{IsHost, dotted_parts, without_final_dot}
use Rattle.names_identity.specs.Identity.{folded}
use Rattle.names_hosts.specs.Hosts.{IsSameHost}

-- a part of no octets is no label
no_empty_part : (text : List ℕ) (before behind : List (List ℕ)) → dotted_parts text ≡ before ++ [] ∷ behind → IsHost text → ⊥
no_empty_part text before behind cut host =
    let within : length before < length (dotted_parts text) = omega (arith, ap length cut, length-append before ([] ∷ behind)) in
    let one = host.labels (length before) [] within in
    let empty : get_or (dotted_parts text) (length before) [] ≡ [] =
    ap (λ (l : List (List ℕ)). get_or l (length before) []) cut ∙ get_or_at before [] behind [] (length before) refl in
    omega (arith, one.0, ap length empty)

pub no_dot_first : (text : List ℕ) → IsHost (46 ∷ text) → ⊥
no_dot_first text host = no_empty_part (46 ∷ text) [] (slice_split is_dot text) (slice_split-cons_yes is_dot 46 text refl) host

last_apart : (xs : List ℕ) → 0 < length xs → xs ≡ take (length xs - 1) xs ++ get_or xs (length xs - 1) 0 ∷ []
last_apart xs h =
    let e : length xs - 1 + 1 ≡ length xs = omega arith in
    sym (take_all (length xs - 1 + 1) xs (omega arith)) ∙ take_more xs (length xs - 1) 0 (omega arith)

dot_behind : (front : List ℕ) → IsHost (front ++ 46 ∷ []) → ⊥
dot_behind front host = no_empty_part (front ++ 46 ∷ []) (slice_split is_dot front) [] (slice_split-append is_dot front 46 [] refl) host

pub no_dot_last : (text : List ℕ) → is_dot (get_or text (length text - 1) 0) ≡ true → IsHost text → ⊥
no_dot_last [] t host = cc
no_dot_last (c ∷ text) t host =
    let all = c ∷ text in
    let n = length all - 1 in
    let e : all ≡ take n all ++ 46 ∷ [] = last_apart all (omega arith) ∙ ap (λ (k : ℕ). take n all ++ k ∷ []) (eqb-true (get_or all n 0) 46 t) in
    dot_behind (take n all) (subst IsHost e host)

-- what has no dot at its end stays as it is
pub no_dot_dropped : (text : List ℕ) → is_dot (get_or text (length text - 1) 0) ≡ false → without_final_dot text ≡ text
unfolding without_final_dot
no_dot_dropped text f = ap (λ (b : Bool). if b then take (length text - 1) text else text) f

-- labels are the same just if the folded octets are
pub joined_labels : (text : List ℕ) → join_with_byte 46 (labels text) ≡ folded text
joined_labels text = join_with_byte-slice_split 46 (folded text)

pub same_folded : (a b : List ℕ) → IsSameHost a b → folded a ≡ folded b
same_folded a b e = sym (joined_labels a) ∙ (ap (λ (l : List (List ℕ)). join_with_byte 46 l) e ∙ joined_labels b)

pub same_host : (a b : List ℕ) → folded a ≡ folded b → IsSameHost a b
same_host a b e = ap (λ (l : List ℕ). slice_split is_dot l) e
