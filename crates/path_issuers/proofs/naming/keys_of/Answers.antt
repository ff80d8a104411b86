use Rattle.std.specs.List.Sorted.{IsPermutation}
use Rattle.std.proofs.lemmas.Result.{IfOk-weaker}
use Rattle.path_issuers.specs.Naming.{HasKeysOf}
use Rattle.path_issuers.specs.declared.keys.Keys.{Keys}
use Rattle.path_issuers.proofs.Gathering.{has_keys}
use Rattle.path_issuers.proofs.naming.keys_of.Goals as goal

pub returns : goal.returns
returns c =
    let search = c.args.search.now in
    let all = c.push.new.self.items in
    IfOk-weaker c.new.result (λ (keys : Keys). IsPermutation all keys.sorted.items) (λ (keys : Keys). HasKeysOf search keys.sorted.items)
    (λ keys same.
    has_keys search c.new-keys.result.items c.add_subjects.new.keys.items c.add_subjects-2.new.keys.items c.add_issuers.new.keys.items all keys.sorted.items
    c.in_ok-key.field-0 c.in_ok-add_subjects.ensures c.in_ok-add_subjects-2.ensures c.in_ok-add_issuers.ensures c.in_ok-push.ensures.items
    c.in_ok-key.ensures same)
    c.new.ensures
