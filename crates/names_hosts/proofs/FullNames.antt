-- The test of fully qualified domain names is exact.
use Rattle.std.proofs.Common.{◌≡◌, ℕ, List, Bool, true, Option, Some, None, refl, sym, ◌∙◌, ap}
use Rattle.std.specs.Prelude.{◌↔◌, IsTrue}
use Rattle.std.proofs.lemmas.Bool.{and_parts, and_from, not-true, not_from_false}
use Rattle.names_identity.specs.Host.{IsHost}
use Rattle.names_hosts.specs.Hosts.{is_host}
use Rattle.names_hosts.specs.Splits.{last_split}
use Rattle.names_hosts.specs.Uri.{is_hex_label, IsFullyQualified, has_last_label, is_fully_qualified}
use Rattle.names_hosts.proofs.HostTests.{host_test_is_exact}
use Rattle.names_hosts.proofs.LastSplits.{split_is, split_from}

labels_from : (host : List ℕ) (parts : Option (List ℕ × List ℕ)) → last_split 46 host ≡ parts → IsHost host → has_last_label parts ≡ true → IsFullyQualified host
labels_from host None is h t = absurd cc
labels_from host (Some parts) is h t = record {
  is_host = h;
  front = parts.0;
  last = parts.1;
  labels = split_from 46 host parts.0 parts.1 is;
  no_hex = not-true (is_hex_label parts.1) t;
}

labels_again : (host : List ℕ) → IsFullyQualified host → has_last_label (last_split 46 host) ≡ true
labels_again host f =
    ap has_last_label (split_is 46 host f.front f.last f.labels) ∙ not_from_false (is_hex_label f.last) f.no_hex

pub labels_test : (host : List ℕ) (b : Bool) → b ≡ has_last_label (last_split 46 host) → IsHost host → (IsTrue b ↔ IsFullyQualified host)
labels_test host b e h = (λ t. labels_from host (last_split 46 host) refl h (sym e ∙ t), λ f. e ∙ labels_again host f)

pub full_test : (host : List ℕ) → (IsTrue (is_fully_qualified host) ↔ IsFullyQualified host)
unfolding is_fully_qualified
full_test host = (
  λ t.
      let a = and_parts (is_host host) (has_last_label (last_split 46 host)) t in
      labels_from host (last_split 46 host) refl ((host_test_is_exact host).0 a.0) a.1,
  λ f. and_from (is_host host) (has_last_label (last_split 46 host)) ((host_test_is_exact host).1 f.is_host) (labels_again host f),
)
