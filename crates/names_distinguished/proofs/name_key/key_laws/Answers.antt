use Rattle.names_distinguished.specs.NameOctets.{rdns_of}
use Rattle.names_distinguished.proofs.Keys.{key_is_exact, key_tells_its_end, keys_tell_their_end, within_is_by_keys, keys_decide_within}
use Rattle.names_distinguished.proofs.SequenceFits.{sequence_fits}
use Rattle.names_distinguished.proofs.name_key.key_laws.Goals as goal

pub returns-clause-names : goal.returns-clause-names
unfolding rdns_of
returns-clause-names c = λ left right.
    key_is_exact (rdns_of left) (rdns_of right) (sequence_fits left.rdns) (sequence_fits right.rdns)

pub returns-clause-lists : goal.returns-clause-lists
returns-clause-lists c = key_is_exact

pub returns-clause-ends : goal.returns-clause-ends
returns-clause-ends c = keys_tell_their_end

pub returns-clause-lists_end : goal.returns-clause-lists_end
returns-clause-lists_end c = key_tells_its_end

pub returns-clause-names_within : goal.returns-clause-names_within
returns-clause-names_within c = keys_decide_within

pub returns-clause-lists_within : goal.returns-clause-lists_within
returns-clause-lists_within c = within_is_by_keys
