use Rattle.std.proofs.Common.{◌≡◌, ◌-◌, ◌≤◌, length, drop}
use Rattle.volume.specs.Path.{segments, good_segments}
use Rattle.path_names.proofs.good_segments.Given as goal

abbrev pub invariant-loop-from : goal.invariant-loop-from
invariant-loop-from l = record {
  within : l.at ≤ length l.s;
  same : good_segments (segments (drop l.at l.s)) ≡ good_segments (segments (drop l.fn.from l.s));
}

abbrev pub decreases-loop-from : goal.decreases-loop-from
decreases-loop-from l = length l.s - l.at
