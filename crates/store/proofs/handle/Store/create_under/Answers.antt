use Rattle.std.proofs.Common.{refl, sym, ◌∙◌}
use Rattle.store.proofs.handle.Store.create_under.Goals as goal

pub returns-in-Ok : goal.returns-in-Ok
returns-in-Ok g c = record {
  profile = refl;
  created = λ clean. c.in-Ok.ensures.creates clean;
  nothing = λ clean. (c.in-Ok.ensures.creates clean).store;
  is_open = λ clean. (c.in-Ok.ensures.creates clean).is_open;
  settled = c.create.ensures.settled.1;
  durable = c.create.ensures.durable;
  crash = c.create.ensures.crash;
  free = λ has. absurd (let no = c.in-Ok.ensures.tables has in cc);
  tables = tt;
  caused = tt;
  refused = tt;
  refused_durable = tt;
  refused_crash = tt;
}

pub returns-in-Err : goal.returns-in-Err
returns-in-Err g c = record {
  profile = tt;
  created = tt;
  nothing = tt;
  is_open = tt;
  settled = tt;
  durable = tt;
  crash = tt;
  free = tt;
  tables = λ has. let is = c.in-Err.ensures.tables has in cc;
  caused = c.in-Err.ensures.caused;
  refused = λ clean. let h = c.in-Err.ensures.creates clean in (
    record {
      was_open = h.0.was_open;
      now_is = λ up. c.create.ensures.settled.1 up ∙ h.0.committed up ∙ sym (c.create.ensures.settled.0 (h.0.was_open up));
    },
    h.1,
  );
  refused_durable = c.create.ensures.durable;
  refused_crash = c.create.ensures.crash;
}
