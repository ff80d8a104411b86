use Rattle.std.proofs.Common.{◌≡◌, ◌++◌, drop}
use Rattle.path.specs.Reading.{texts_of}
use Rattle.capi_values.specs.Texts.{AreAllOctets, octets_of_texts}
use Rattle.capi_values.proofs.texts.add_octets.Given as goal

abbrev pub invariant-loop-text : goal.invariant-loop-text
invariant-loop-text l =
    (texts_of l.octets.items ++ octets_of_texts (drop l.text-index l.texts) ≡ texts_of l.fn.octets.items ++ octets_of_texts l.texts)
    × (AreAllOctets (texts_of l.fn.octets.items) → AreAllOctets (texts_of l.octets.items))
