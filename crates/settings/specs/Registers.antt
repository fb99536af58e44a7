-- Where the registers of a board stand.
use Rattle.std.specs.Prelude.{◌≡◌, ℕ, ◌+◌, ◌-◌, ◌*◌, ◌/◌, ◌%◌, ◌<◌, Bool, cond, ◌&&◌, Some, None, Option, ◌==◌, ◌≢◌, nat_le}
use Rattle.settings.specs.declared.register.Register.{Register}
use Rattle.settings.specs.declared.register.Register.TheVariants.{Geo, Status, SoftwareReset, CounterLow, CounterHigh, Skip, Mode, ModeClear, Crate, CounterReset, Threshold}

abbrev pub offset_of : Register → ℕ
offset_of Geo = 0x1002
offset_of Status = 0x100E
offset_of SoftwareReset = 0x1016
offset_of CounterLow = 0x1024
offset_of CounterHigh = 0x1026
offset_of Skip = 0x1028
offset_of Mode = 0x1032
offset_of ModeClear = 0x1034
offset_of Crate = 0x103C
offset_of CounterReset = 0x1040
offset_of (Threshold tag) = 0x1080 + 2 * tag

-- even offsets from 0x1080 to 0x10BE, one for each tag below 32
abbrev pub is_threshold : ℕ → Bool
is_threshold o = nat_le 0x1080 o && (nat_le o 0x10BE && o % 2 == 0)

abbrev pub register_at : ℕ → Option Register
register_at o =
    cond (o == 0x1002) (Some Geo)
    (cond (o == 0x100E) (Some Status)
    (cond (o == 0x1016) (Some SoftwareReset)
    (cond (o == 0x1024) (Some CounterLow)
    (cond (o == 0x1026) (Some CounterHigh)
    (cond (o == 0x1028) (Some Skip)
    (cond (o == 0x1032) (Some Mode)
    (cond (o == 0x1034) (Some ModeClear)
    (cond (o == 0x103C) (Some Crate)
    (cond (o == 0x1040) (Some CounterReset)
    (cond (is_threshold o) (Some (Threshold ((o - 0x1080) / 2))) None))))))))))

-- a threshold has a tag below 32
abbrev pub IsRegister : Register → Type 0
IsRegister Geo = Unit {0}
IsRegister Status = Unit {0}
IsRegister SoftwareReset = Unit {0}
IsRegister CounterLow = Unit {0}
IsRegister CounterHigh = Unit {0}
IsRegister Skip = Unit {0}
IsRegister Mode = Unit {0}
IsRegister ModeClear = Unit {0}
IsRegister Crate = Unit {0}
IsRegister CounterReset = Unit {0}
IsRegister (Threshold tag) = tag < 32

-- the register that stands at an offset, and none exactly where no register does
abbrev pub RegisterIs : ℕ → Option Register → Type 0
RegisterIs o (Some x) = IsRegister x × (offset_of x ≡ o)
RegisterIs o None = (x : Register) → IsRegister x → offset_of x ≢ o
