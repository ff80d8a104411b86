-- What a writer holds after several writes, where that is known.
use Rattle.std.proofs.Common.{◌≡◌, ℕ, List, [], ◌++◌, Option, Some, None, sym, ap, ◌∙◌, append_assoc, append-nil}
use Rattle.std.specs.Io.KnownBytes.{Appends}

-- nothing was written
pub appends_none : (a : Option (List ℕ)) (text : List ℕ) → text ≡ [] → Appends a a text
appends_none None text e = tt
appends_none (Some x) text e = sym (ap (λ l. x ++ l) e ∙ append-nil x)

-- one text was written, and then another
pub appends_both : (a b c : Option (List ℕ)) (first second text : List ℕ) → Appends a b first → Appends b c second → text ≡ first ++ second → Appends a c text
appends_both None b c first second text p q e = tt
appends_both (Some x) None c first second text p q e = absurd p
appends_both (Some x) (Some y) None first second text p q e = absurd q
appends_both (Some x) (Some y) (Some z) first second text p q e =
    q ∙ ap (λ l. l ++ second) p ∙ append_assoc x first second ∙ ap (λ l. x ++ l) (sym e)
