-- How hours are counted: the first and the last hour of each cycle (UTS #35, the key `hc`). `c12`
-- and `c24` leave to the locale which cycle of 12 or 24 hours it is; this program takes `h12` and
-- `h23`.
use Rattle.std.specs.Prelude.{ℕ}
use Rattle.icu_locale_core.specs.HourCycles.{HourCycle}
use Rattle.icu_locale_core.specs.HourCycles.TheVariants.{H11, H12, H23, Clock12, Clock24}

abbrev pub first_hour : HourCycle → ℕ
first_hour H11 = 0
first_hour H12 = 1
first_hour H23 = 0
first_hour Clock12 = 1
first_hour Clock24 = 0

abbrev pub last_hour : HourCycle → ℕ
last_hour H11 = 11
last_hour H12 = 12
last_hour H23 = 23
last_hour Clock12 = 12
last_hour Clock24 = 23
