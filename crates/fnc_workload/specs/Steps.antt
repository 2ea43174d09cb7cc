-- Which line a workload makes next: a function of the draws so far, and of the least run that is alive.
use Rattle.std.specs.Prelude.{ℕ, ◌+◌, ◌-◌, ◌*◌, ◌/◌, ◌%◌, ◌^◌, ◌==◌, if◌then◌else◌, nat_lt, Option, Some, None}
use Rattle.fnc_made.specs.declared.made.Made.{Made}
use Rattle.fnc_workload.specs.declared.making.Making.{Making}
use Rattle.fnc_workload.specs.declared.making.Next.{Next}

-- the state of the draws after one more
abbrev pub drawn : ℕ → ℕ
drawn x = (x * 6364136223846793005 + 1442695040888963407) % 2 ^ 64

-- what it answers to a draw of a number below n
abbrev pub below : ℕ → ℕ → ℕ
below x n = x / 8589934592 % n

-- the opening: 8 devices, and then for each of 32 targets its first level and its second
abbrev pub opening : ℕ → Made
opening n =
    if nat_lt n 8 then Made.Device n
    else if (n - 8) % 2 == 0 then Made.First ((n - 8) / 2)
    else Made.Second ((n - 8) / 2)

-- a request: first its target is drawn, then its action
abbrev pub asking : ℕ → ℕ → ℕ → Next
asking moment x made =
    record {
      line =
          if below (drawn (drawn x)) 2 == 1 then Made.Reboot moment (below (drawn x) 32)
          else Made.Off moment (below (drawn x) 32);
      making = record { state = drawn (drawn x); moment = moment; made = made + 1 };
    }

-- the end of a run: its code is drawn
abbrev pub ending : ℕ → ℕ → ℕ → ℕ → Next
ending moment x made run =
    record {
      line = Made.Exit moment run (if below (drawn x) 4 == 0 then 1 else 0);
      making = record { state = drawn x; moment = moment; made = made + 1 };
    }

-- only time passes
abbrev pub passing : ℕ → ℕ → ℕ → Next
passing moment x made =
    record { line = Made.Pass moment; making = record { state = x; moment = moment; made = made + 1 } }

-- what a step does, by what was drawn: one in four is a request, two in four end the least run that is alive, if one is
abbrev pub stepping : ℕ → ℕ → ℕ → ℕ → Option ℕ → Next
stepping w moment x made alive =
    if w == 0 then asking moment x made
    else if w == 3 then passing moment x made
    else elim alive [ None ↦ passing moment x made | Some run ↦ ending moment x made run ]

-- a step: first its moment is drawn, then what it does
abbrev pub step : Making → Option ℕ → Next
step s alive =
    stepping (below (drawn (drawn s.state)) 4) (s.moment + below (drawn s.state) 2000) (drawn (drawn s.state)) s.made
    alive

-- after all steps the least run that is alive ends, until none is
abbrev pub closing : Making → Option ℕ → Option Next
closing s None = None
closing s (Some run) =
    Some (record { line = Made.Exit (s.moment + 1) run 0; making = record s { moment = s.moment + 1 } })

-- the line that comes next, of a workload of so many steps, and how it stands after it
abbrev pub next : Making → ℕ → Option ℕ → Option Next
next s count alive =
    if nat_lt s.made 72 then Some (record { line = opening s.made; making = record s { made = s.made + 1 } })
    else if nat_lt s.made (72 + count) then Some (step s alive)
    else closing s alive
