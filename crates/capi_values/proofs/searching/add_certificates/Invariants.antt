use Rattle.std.proofs.Common.{◌≡◌, ◌++◌, drop}
use Rattle.capi_values.specs.Texts.{AreAllOctets, all_seen, octets_of_texts, readings_under}
use Rattle.capi_values.proofs.searching.add_certificates.Given as goal

abbrev pub invariant-loop-text : goal.invariant-loop-text
invariant-loop-text l =
    (all_seen l.certificates.items ++ readings_under l.profile (octets_of_texts (drop l.text-index l.texts))
    ≡ all_seen l.fn.certificates.items ++ readings_under l.profile (octets_of_texts l.texts))
    × (AreAllOctets (octets_of_texts (drop l.text-index l.texts)) → AreAllOctets (octets_of_texts l.texts))
