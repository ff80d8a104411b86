-- A list of the stated profile has no points, and is one of the wide profile too.
use Rattle.std.proofs.Common.{◌≡◌, ◌≢◌, ◌⊎◌, ◌∷◌, ℕ, List, [], All, Any, Ok, refl, sym, ap, ◌∙◌, inl, inr}
use Rattle.asn.specs.Place.{Place}
use Rattle.statements_facts.specs.declared.profile.Profile.TheVariants.{Stated, Wide}
use Rattle.cert.specs.Extension.{Extension}
use Rattle.statements_crl.specs.CertificateList.{TbsCertList, CertificateList}
use Rattle.statements_crl.specs.EntryForms.{id_ce}
use Rattle.statements_crl.specs.ListExtension.{NumberAndScope}
use Rattle.statements_crl.specs.ListForms.{HasListExtensions, IsTbsCertList, IsCertificateListAtUnder, IsCertificateListUnder, StatedListsAreWhole, StatedListsAreReadWide}
use Rattle.statements_crl.proofs.ExtensionTypes.{Differs, some_or_none}
use Rattle.statements_crl.proofs.ListLaws.{list_is_exact_under}

no_points : (list : Place) (fields : NumberAndScope) → HasListExtensions Stated list fields → fields.points ≡ []
no_points list fields is = by (some_or_none 28 is.extensions) where
  by : Any (λ one. one.oid ≡ id_ce 28) is.extensions ⊎ All (Differs 28) is.extensions → fields.points ≡ []
  by (inl (k, one, within, at, same)) = (is.scope k one within (ap (λ (e : Extension). e.oid) at ∙ same)).1
  by (inr absent) = (is.about_all absent).1

wide_extensions : (list : Place) (fields : NumberAndScope) → HasListExtensions Stated list fields → HasListExtensions Wide list fields
wide_extensions list fields is = record {
  extensions = is.extensions;
  sequence = is.sequence;
  each = is.each;
  types = is.types;
  numbered = is.numbered;
  number = is.number;
  complete = is.complete;
  scope = λ k one within same. inl (is.scope k one within same);
  about_all = is.about_all;
  known = is.known;
}

wide_tbs : (value : Place) (fields : TbsCertList) → IsTbsCertList Stated value fields → IsTbsCertList Wide value fields
wide_tbs value fields is = record {
  version = is.version;
  signature = is.signature;
  issuer = is.issuer;
  this_update = is.this_update;
  next_update = is.next_update;
  revoked = is.revoked;
  explicit = is.explicit;
  extensions = is.extensions;
  sequence = is.sequence;
  members_are = is.members_are;
  version_integer = is.version_integer;
  version_2 = is.version_2;
  signature_is = is.signature_is;
  issuer_is = is.issuer_is;
  issuer_named = is.issuer_named;
  this_update_is = is.this_update_is;
  next_update_is = is.next_update_is;
  revoked_are = is.revoked_are;
  tagged = is.tagged;
  one_inside = is.one_inside;
  extensions_are = wide_extensions is.extensions fields.named is.extensions_are;
}

wide_list_at : (value : Place) (fields : CertificateList) → IsCertificateListAtUnder Stated value fields → IsCertificateListAtUnder Wide value fields
wide_list_at value fields is = record {
  signed = is.signed;
  algorithm = is.algorithm;
  signature = is.signature;
  tbs = is.tbs;
  sequence = is.sequence;
  members_are = is.members_are;
  signed_is = wide_tbs is.signed is.tbs is.signed_is;
  algorithm_sequence = is.algorithm_sequence;
  same_algorithm = is.same_algorithm;
  signature_is = is.signature_is;
  fields_are = is.fields_are;
}

pub stated_is_wide : (octets : List ℕ) (fields : CertificateList) → IsCertificateListUnder Stated octets fields → IsCertificateListUnder Wide octets fields
stated_is_wide octets fields is = record { value = is.value; der = is.der; layout = wide_list_at (record { octets = octets; at = 0 }) fields is.layout }

pub stated_lists_are_whole : StatedListsAreWhole
stated_lists_are_whole octets fields fits e =
    let is = ((list_is_exact_under Stated octets fields fits).0 e).layout in
    ap (λ (list : CertificateList). list.points) is.fields_are ∙ no_points is.signed_is.extensions is.tbs.named is.signed_is.extensions_are

pub stated_lists_are_read_wide : StatedListsAreReadWide
stated_lists_are_read_wide octets fields fits e =
    (list_is_exact_under Wide octets fields fits).1 (stated_is_wide octets fields ((list_is_exact_under Stated octets fields fits).0 e))
