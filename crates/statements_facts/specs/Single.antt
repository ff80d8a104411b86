-- What a response says of one certificate, whoever its issuer is (RFC 6960, 4.2.1).
use Rattle.std.specs.Prelude.{ℕ, List, [], ◌∷◌, Option, Some, None}
use Rattle.statements_facts.specs.declared.single.Single.{Single}
use Rattle.statements_facts.specs.Statement.{OcspFact}

-- the certificate, by the hash of its issuer's name and its serial number, and the fact
pub record SingleFact : Type 0 where
  pub name_hash : List ℕ
  pub serial : List ℕ
  pub fact : OcspFact

abbrev pub seen_single : Single → SingleFact
seen_single single = record {
  name_hash = single.name_hash;
  serial = single.serial.now;
  fact = record {
    times = record { this_update = single.this_update; produced_at = single.produced_at };
    window = record { from = single.from; until = single.until };
    status = single.status;
  };
}

-- a list of one at least
abbrev pub some_singles : List SingleFact → Option (List SingleFact)
some_singles [] = None
some_singles (single ∷ singles) = Some (single ∷ singles)
