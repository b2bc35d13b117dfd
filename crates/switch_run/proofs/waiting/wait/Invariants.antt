use Rattle.std.proofs.Common.{◌≡◌, ◌≤◌, ◌+◌, ℕ, length}
use Rattle.switch_response.specs.Network.{IsRoomFor}
use Rattle.switch_run.specs.Waits.{Waits}
use Rattle.switch_run.proofs.waiting.wait.Given as goal

abbrev pub invariant-loop-step : goal.invariant-loop-step
invariant-loop-step g l = record {
  waited : Waits l.net l.pins l.step l.fn.state l.state;
  state : length l.state ≡ l.net.net.storage;
  scratch : IsRoomFor l.net l.scratch;
  work : l.steps ≤ l.fn.steps + l.step;
}
