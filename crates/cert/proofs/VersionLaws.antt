-- What the step for the version says of the values, in both directions.
use Rattle.std.proofs.Common.{◌≡◌, ℕ, false, List, [], ◌∷◌, ◌++◌, Option, Some, None, Ok, refl, sym, ap, ◌∙◌, subst}
use Rattle.asn.specs.Place.{Place}
use Rattle.asn.specs.Members.{Members, members, begins, begins_in}
use Rattle.asn.specs.Walk.{optional, or_fault}
use Rattle.asn.proofs.Laws.{bind_ok, ok_is, required_ok, required_again, TakesOptional, optional_is, optional_there, optional_absent, ended_ok, ended_again}
use Rattle.cert.specs.declared.fault.CertRule.TheVariants as R
use Rattle.cert.specs.declared.version.Version.{Version}
use Rattle.cert.specs.declared.version.Version.TheVariants.{V1}
use Rattle.cert.specs.Version.{version_in, version, IsExplicitVersion, IsVersion}

-- the version is there or not, and then the others
pub record TakesVersion (left : Members) (version : Version) (others : Members) : Type 0 where
  pub versions : List Place
  pub values : left.values ≡ versions ++ others.values
  pub end : others.end ≡ left.end
  pub is_version : IsVersion versions version

some_is : {A F : Type 0} (o : Option A) (fault : F) (at : ℕ) (x : A) → or_fault o fault at ≡ Ok x → o ≡ Some x
some_is None fault at x e = absurd cc
some_is (Some y) fault at x e = ap (λ z. Some z) (ok_is y x e)

of_version : (left : Members) (found : Option Place) (others : Members) (x : Version × Members) → TakesOptional 0xA0 left found others → version_in found others ≡ Ok x → TakesVersion left x.0 x.1
of_version left None others x took e =
    let P : Version × Members → Type 0 = λ y. TakesVersion left y.0 y.1 in
    subst P (ok_is (V1, others) x e) record { versions = []; values = sym (ap (λ m. m.values) took.0); end = ap (λ m. m.end) took.0; is_version = refl }
of_version left (Some explicit) others x took e =
    let number = bind_ok _ _ x e in
    let known = bind_ok _ _ x number.2 in
    let done = bind_ok _ _ x known.2 in
    let inner = required_ok _ _ _ _ number.1 in
    let P : Version × Members → Type 0 = λ y. TakesVersion left y.0 y.1 in
    subst P (ok_is (known.0, others) x done.2) record {
      versions = explicit ∷ [];
      values = took.values;
      end = took.end;
      is_version = record {
        number = number.0.0;
        explicit = took.tag_is;
        members_are = inner.values ∙ ap (◌∷◌ number.0.0) (ended_ok _ _ _ done.1);
        integer = inner.tag_is;
        known = some_is _ _ _ _ known.1;
      };
    }

pub version_ok : (left : Members) (x : Version × Members) → version left ≡ Ok x → TakesVersion left x.0 x.1
unfolding version
version_ok left x e = of_version left (optional 0xA0 left).0 (optional 0xA0 left).1 x (optional_is 0xA0 left) e

inside_again : (explicit : Place) (others : Members) (v : Version) → IsExplicitVersion explicit v → version_in (Some explicit) others ≡ Ok (v, others)
inside_again explicit others v is =
    rw (required_again 0x02 R.Layout (members explicit) is.number [] is.members_are is.integer, is.known, ended_again R.Layout (record { values = []; end = (members explicit).end }) refl) refl

-- others that do not begin with the tag leave no doubt
pub version_again : (left : Members) (versions others : List Place) (v : Version) → left.values ≡ versions ++ others → IsVersion versions v → begins_in 0xA0 others ≡ false → version left ≡ Ok (v, record { values = others; end = left.end })
unfolding version begins
version_again left [] others v e is absent = rw (optional_absent 0xA0 left (ap (begins_in 0xA0) e ∙ absent), ← e, is) refl
version_again left (explicit ∷ []) others v e is absent =
    rw (optional_there 0xA0 left explicit others e is.explicit, inside_again explicit (record { values = others; end = left.end }) v is) refl
version_again left (explicit ∷ other ∷ versions) others v e is absent = absurd is
