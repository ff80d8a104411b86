-- Lines, octet by octet.
use Rattle.std.proofs.Common.{◌≡◌, ◌≢◌, ◌<◌, ◌≤◌, ◌^◌, ℕ, List, [], ◌∷◌, ◌++◌, length, Option, append-nil, append_assoc, inl, inr, refl, sym, subst, arith}
use Rattle.std.specs.Io.KnownBytes.{Consumes, IsAtEnd}
use Rattle.std.proofs.KnownBytes.{Consumes-trans}
use Rattle.std.proofs.lemmas.List.{length-append}
use Rattle.cli_answers.specs.Lines.{EndsFull, GivesLine, HasNoFeed, IsLineRead}
use Rattle.cli_answers.specs.declared.lines.LineRead.{LineRead}
use Rattle.cli_answers.specs.declared.lines.LineRead.TheVariants.{Line, TooLong, End}

pub no_feeds : (octets more : List ℕ) → HasNoFeed octets → HasNoFeed more → HasNoFeed (octets ++ more)
no_feeds [] more none rest = rest
no_feeds (octet ∷ octets) more (first, none) rest = (first, no_feeds octets more none rest)

pub one_more : (a b c : Option (List ℕ)) (octets : List ℕ) (octet : ℕ) → HasNoFeed octets → Consumes a b octets → octet ≢ 10 → Consumes b c (octet ∷ [])
    → HasNoFeed (octets ++ octet ∷ []) × Consumes a c (octets ++ octet ∷ [])
one_more a b c octets octet none read other next = (no_feeds octets (octet ∷ []) none (other, tt), Consumes-trans a b c octets (octet ∷ []) read next)

pub at_feed : (a b c : Option (List ℕ)) (octets : List ℕ) (octet : ℕ) → Consumes a b octets → octet ≡ 10 → Consumes b c (octet ∷ []) → Consumes a c (octets ++ 10 ∷ [])
at_feed a b c octets octet read is next = subst (λ (o : ℕ). Consumes a c (octets ++ o ∷ [])) is (Consumes-trans a b c octets (octet ∷ []) read next)

pub at_end : (a b c : Option (List ℕ)) (octets : List ℕ) → Consumes a b octets → Consumes b c [] → Consumes a c octets
at_end a b c octets read next = subst (Consumes a c) (append-nil octets) (Consumes-trans a b c octets [] read next)

-- the octets read so far are those of a line
pub line_before : (a b c : Option (List ℕ)) (octets rest : List ℕ) → HasNoFeed octets → Consumes a b octets → GivesLine b c rest → GivesLine a c (octets ++ rest)
line_before a b c octets rest none read (more, inl fed) =
    (no_feeds octets rest none more, inl (subst (Consumes a c) (sym (append_assoc octets rest (10 ∷ []))) (Consumes-trans a b c octets (rest ++ 10 ∷ []) read fed)))
line_before a b c octets rest none read (more, inr (last, end)) =
    (no_feeds octets rest none more, inr (Consumes-trans a b c octets rest read last, end))

-- ---- the end of a line

pub last_read : (a b c : Option (List ℕ)) (octets : List ℕ) (read : LineRead) → HasNoFeed octets → length octets ≤ 2 ^ 20 → Consumes a b octets
    → Consumes b c [] × IsAtEnd c → (length octets ≡ 0 → read ≡ End) → (0 < length octets → read ≡ Line) → IsLineRead a c octets read
last_read a b c [] read none few held (next, end) empty some =
    subst (IsLineRead a c []) (sym (empty refl)) (at_end a b c [] held next, end)
last_read a b c (octet ∷ octets) read none few held (next, end) empty some =
    subst (IsLineRead a c (octet ∷ octets)) (sym (some (omega arith))) (none, few, inr (omega arith, at_end a b c (octet ∷ octets) held next, end))

pub full_read : (a b c : Option (List ℕ)) (octets : List ℕ) (read : LineRead) → HasNoFeed octets → length octets ≡ 2 ^ 20 → Consumes a b octets
    → EndsFull b c read → IsLineRead a c octets read
full_read a b c octets Line none full held (inl fed) = (none, omega (arith, full), inl (Consumes-trans a b c octets (10 ∷ []) held fed))
full_read a b c octets Line none full held (inr (next, end)) = (none, omega (arith, full), inr (omega (arith, full), at_end a b c octets held next, end))
full_read a b c octets TooLong none full held (rest, more, gives) =
    (rest, omega (arith, full, more, length-append octets rest), line_before a b c octets rest none held gives)
full_read a b c octets End none full held impossible = absurd impossible
