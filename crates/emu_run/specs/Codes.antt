-- The codes of a context and of a world, by which contracts tell their values apart.
use Rattle.std.specs.Prelude.{ℕ, List, Option}
use Rattle.std.specs.Coded.{Coded, code_by, coded×, coded_ℕ, coded_list, coded_option}
use Rattle.std.proofs.Common.{refl}
use Rattle.emu_model.specs.Access.{Memory}
use Rattle.emu_model.specs.Codes.{coded_memory, coded_core, coded_vectors}
use Rattle.emu_model.specs.State.{Core, Vectors}
use Rattle.emu_model.specs.declared.trap.Ended.{Ended}
use Rattle.emu_model.specs.contracts.trap.Ended as ended
use Rattle.emu_run.specs.declared.thread.Standing.{Standing}
use Rattle.emu_run.specs.contracts.thread.Standing as standing
use Rattle.emu_run.specs.Worlds.{Context, World}

abbrev pub coded_context : Coded Context
coded_context = code_by (Core × (Vectors × (ℕ × Standing))) (coded× coded_core (coded× coded_vectors (coded× coded_ℕ standing.the_row.coded)))
    (λ c. (c.core, (c.vectors, (c.clear, c.standing)))) (λ t. record { core = t.0; vectors = t.1.0; clear = t.1.1.0; standing = t.1.1.1 }) (λ _. refl)

abbrev pub coded_world : Coded World
coded_world = code_by (Memory × ((ℕ × ℕ) × (ℕ × (Option Ended × (ℕ × List Context)))))
    (coded× coded_memory (coded× (coded× coded_ℕ coded_ℕ) (coded× coded_ℕ (coded× (coded_option ended.the_row.coded) (coded× coded_ℕ (coded_list coded_context))))))
    (λ w. (w.memory, ((w.brk.start, w.brk.now), (w.steps, (w.ended, (w.last, w.contexts))))))
    (λ t. record { memory = t.0; brk = record { start = t.1.0.0; now = t.1.0.1 }; steps = t.1.1.0; ended = t.1.1.1.0; last = t.1.1.1.1.0; contexts = t.1.1.1.1.1 }) (λ _. refl)
