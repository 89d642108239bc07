-- What taking up a frame does. Assumes nothing: these are definitions.
use Rattle.std.specs.Prelude.{◌≡◌, List, ℕ, length}
use Rattle.model.specs.Words.{Pointer}
use Rattle.model.specs.Program.{Program, execute}
use Rattle.model.specs.Step as Step
use Rattle.state.specs.View.{machine_with, ended}
use Rattle.state.specs.declared.Core.{Core}
use Rattle.restore.specs.declared.Settled.{Settled}

-- how a program ends, from these PRs and memory, with what stands in them then
pub record EndsAs (c : Core) (ps : List Pointer) (m : List ℕ) (p : Program) (x : Settled) (ps_now : List Pointer) (m_now : List ℕ) : Type 0 where
  pub ends : ended (machine_with c ps m) (execute (machine_with c ps m) p) x.end (machine_with x.core ps_now m_now)

-- 34, 52 and the registers of a frame, from any memory of that size
pub record Taken (c : Core) (ps : List Pointer) (size : ℕ) (frame : List ℕ) (t : Pointer) (x : Settled) (ps_now : List Pointer) : Type 0 where
  pub ends : (m : List ℕ) → length m ≡ size → EndsAs c ps m (Step.take_up size t (Step.registers_in frame)) x ps_now m
