use Rattle.std.proofs.Common.{◌≡◌, ◌≤◌, ◌-◌, ◌++◌, length, take, IsTrue}
use Rattle.gb_store.specs.Faults.{KeepsFaults}
use Rattle.gb_store.proofs.sink.write_whole.Given as goal

abbrev pub invariant-loop-done : goal.invariant-loop-done
invariant-loop-done g l = record {
  within : l.done ≤ length l.bytes;
  written : IsTrue g.K.Sink.tells → g.K.Sink.written l.out ≡ g.K.Sink.written l.fn.out ++ take l.done l.bytes;
  caused : KeepsFaults g.K.Sink.never_fails g.K.Sink.faults ⊥ l.fn.out l.out;
}

abbrev pub decreases-loop-done : goal.decreases-loop-done
decreases-loop-done g l = length l.bytes - l.done
