use Rattle.std.proofs.Common.{◌≡◌, ℕ, ◌*◌, ◌<◌, ◌≤◌, get_or, take}
use Rattle.rounding.specs.Table.{full}
use Rattle.fleet.specs.Fleets.{ledger_of}
use Rattle.indices.specs.Loads.{limit}
use Rattle.indices.specs.Days.{lost_days}
use Rattle.indices.proofs.lost_load.days.Given as goal

abbrev pub invariant-loop-day : goal.invariant-loop-day
invariant-loop-day g l =
    let loads = g.L.LoadModel.loads l.model in
    (l.sum ≡ lost_days (ledger_of l.fleet) (take l.day loads))
    × (l.sum ≤ l.day * full)
    × (l.bound ≡ l.day * l.fleet.tolerance)
    × ((day : ℕ) → day < l.day → get_or loads day 0 ≤ limit)
