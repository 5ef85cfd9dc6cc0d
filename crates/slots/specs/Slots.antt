-- What a count of a number stands for: resolution and offset of each row of the dictionary, in thousandths of 002's unit ("0.125 rpm/bit" is 125, "-12.5 deg offset"
-- is -12,500; docs/UNITS.md has the units). tools/unitscheck compares them with 002's text.
-- Assumes nothing.
use Rattle.std.specs.Prelude.{ℕ, Bool, true, ◌&&◌, leb, ltb, get_or}
use mathlib.Core.List.{List, [], ◌∷◌, map}
use Rattle.slots.specs.declared.Slot.{Slot}

-- a resolution, and how far its offset lies below 0: no offset of 002 is above it
abbrev pub slot : ℕ → ℕ → Slot
slot r b = record { resolution = r; below = b }

-- how many there are
abbrev pub slot_count : ℕ
slot_count = 12

-- each pair of resolution and offset that 002 gives, once
unfoldable pub slots : List Slot
slots =
    slot 125 0 ∷
    slot 10000 0 ∷
    slot 1000 0 ∷
    slot 400 0 ∷
    slot 1000 40000 ∷
    slot 1000 125000 ∷
    slot 50000 0 ∷
    slot 100 0 ∷
    slot 100 12500 ∷
    slot 2000 0 ∷
    slot 500 0 ∷
    slot 5000 0 ∷
    []

-- which of them each row of the dictionary has, by the row's number
unfoldable pub column : List ℕ
column =
    0 ∷  -- 1488 Thresher Speed, 0.125 rpm/bit
    1 ∷  -- 1489 Cleaning Fan Speed, 10 rpm/bit
    2 ∷  -- 1490 Header Backshaft Speed, 1 rpm/bit
    2 ∷  -- 1497 Unloading Auger Drive, 4 states/2 bit
    2 ∷  -- 1498 Header Drive, 4 states/2 bit
    2 ∷  -- 1499 Separator Drive, 4 states/2 bit
    3 ∷  -- 1505 Automatic Header Sensitivity Adjustment, 0.4 %/bit
    3 ∷  -- 1506 Automatic Header Rate Adjustment Input, 0.4 %/bit
    4 ∷  -- 1508 Hydraulic Reservoir Temperature, 1 deg C/bit from -40 deg C
    4 ∷  -- 1509 Thresher Separator Hydraulic Drive 1 Temperature, 1 deg C/bit from -40 deg C
    5 ∷  -- 1510 Chopper Vane Angle Adjustment, 1 deg/bit from -125 deg
    3 ∷  -- 1511 Right side Cleaning Shoe Relative Grain Loss, 0.4 %/bit
    3 ∷  -- 1512 Left side Cleaning Shoe Relative Grain Loss, 0.4 %/bit
    3 ∷  -- 1513 Right side Separator Relative Grain Loss, 0.4 %/bit
    3 ∷  -- 1514 Left side Separator Relative Grain Loss, 0.4 %/bit
    6 ∷  -- 1517 Header Lift Cylinder Pressure, 50 kPa/bit
    2 ∷  -- 1518 Header Sensor Identification, 1 count/bit
    2 ∷  -- 1519 Header Raise Valve Drive, 4 states/2 bit
    2 ∷  -- 1520 Header Lower Valve Drive, 4 states/2 bit
    2 ∷  -- 1521 Header Tilt Left Valve Drive, 4 states/2 bit
    2 ∷  -- 1522 Header Tilt Right Valve Drive, 4 states/2 bit
    2 ∷  -- 1523 Header Lift Cylinder Pressure Diverted Valve Drive, 4 states/2 bit
    2 ∷  -- 1524 Reel Position Forward Actuator, 4 states/2 bit
    2 ∷  -- 1525 Reel Position Aft Actuator, 4 states/2 bit
    2 ∷  -- 1526 Reel Position Raise Actuator, 4 states/2 bit
    2 ∷  -- 1527 Reel Position Lower Actuator, 4 states/2 bit
    2 ∷  -- 1528 Header Drop Rate Control Valve Drive, 4 states/2 bit
    2 ∷  -- 1529 Header Lift Cylinder Accumulator Shutoff Valve Drive, 4 states/2 bit
    2 ∷  -- 1530 Unloading auger flow bypass valve drive, 4 states/2 bit
    2 ∷  -- 1531 Reel Drive Motor Speed Increase Valve Drive, 4 states/2 bit
    2 ∷  -- 1532 Reel Drive Motor Speed Decrease Valve Drive, 4 states/2 bit
    7 ∷  -- 1534 Header Leftmost Height, 0.1 mm/bit
    7 ∷  -- 1535 Header Rightmost Height, 0.1 mm/bit
    7 ∷  -- 1536 Header Center Height, 0.1 mm/bit
    3 ∷  -- 1537 Reel Fore-Aft Position, 0.4 %/bit
    3 ∷  -- 1538 Reel Up-Down Position, 0.4 %/bit
    8 ∷  -- 1539 Header Lateral Tilt Angle, 0.1 deg/bit from -12.5 deg
    3 ∷  -- 1540 Reel Speed Actuator Position, 0.4 %/bit
    2 ∷  -- 1541 Reel Speed, 1 rpm/bit
    2 ∷  -- 1554 Clean Grain Elevator Speed, 1 rpm/bit
    0 ∷  -- 2989 Combine separator speed, 0.125 rpm/bit
    3 ∷  -- 2991 Tailings volume, 0.4 %/bit
    2 ∷  -- 2992 Move reel forward, 4 states/2 bit
    2 ∷  -- 2993 Move reel aft, 4 states/2 bit
    2 ∷  -- 2994 Reel raise, 4 states/2 bit
    2 ∷  -- 2995 Reel lower, 4 states/2 bit
    2 ∷  -- 2996 Header raise slow, 4 states/2 bit
    2 ∷  -- 2997 Header lower slow, 4 states/2 bit
    2 ∷  -- 2998 Header raise fast, 4 states/2 bit
    2 ∷  -- 2999 Header lower fast, 4 states/2 bit
    2 ∷  -- 3000 Tilt header left, 4 states/2 bit
    2 ∷  -- 3001 Tilt header right, 4 states/2 bit
    2 ∷  -- 3002 Header fold, 4 states/2 bit
    2 ∷  -- 3003 Header unfold, 4 states/2 bit
    2 ∷  -- 3004 Draper speed increment, 4 states/2 bit
    2 ∷  -- 3005 Draper speed decrement, 4 states/2 bit
    2 ∷  -- 3006 Reel speed increment, 4 states/2 bit
    2 ∷  -- 3007 Reel speed decrement, 4 states/2 bit
    2 ∷  -- 3008 Threshing clearance increment, 4 states/2 bit
    2 ∷  -- 3009 Threshing clearance decrement, 4 states/2 bit
    2 ∷  -- 3010 Threshing speed increment, 4 states/2 bit
    2 ∷  -- 3011 Threshing speed decrement, 4 states/2 bit
    2 ∷  -- 3012 Product fan speed increment, 4 states/2 bit
    2 ∷  -- 3013 Product fan speed decrement, 4 states/2 bit
    2 ∷  -- 3015 Implement fold down, 4 states/2 bit
    2 ∷  -- 3016 Implement fold up, 4 states/2 bit
    2 ∷  -- 3017 RH header raise, 4 states/2 bit
    2 ∷  -- 3018 LH header raise, 4 states/2 bit
    2 ∷  -- 3019 Product fan engage mode, 4 states/2 bit
    2 ∷  -- 3020 Augers engage mode, 4 states/2 bit
    2 ∷  -- 3021 Product basket fill state, 4 states/2 bit
    2 ∷  -- 3022 Augers enable mode, 4 states/2 bit
    2 ∷  -- 3023 Header height control mode, 4 states/2 bit
    2 ∷  -- 3024 Header remote tether control mode, 4 states/2 bit
    2 ∷  -- 3025 Lubrication control mode, 4 states/2 bit
    3 ∷  -- 3032 Right Brake Pedal Position, 0.4 %/bit
    3 ∷  -- 3033 Left Brake Pedal Position, 0.4 %/bit
    9 ∷  -- 3042 Requested Wheel Speed, 2 m/h per bit
    3 ∷  -- 3088 Header height vertical rate control, 0.4 %/bit
    3 ∷  -- 3089 Header height sensitivity control, 0.4 %/bit
    5 ∷  -- 3090 Header height setpoint change, 1 count/bit from -125
    2 ∷  -- 3091 Header height setpoint change sequence number, 1 count/bit
    2 ∷  -- 3092 Header platform height, 1 mm/bit
    2 ∷  -- 3093 Header platform height maximum, 1 mm/bit
    6 ∷  -- 3096 Header float pressure, 50 kPa/bit
    6 ∷  -- 3097 Header float pressure maximum, 50 kPa/bit
    3 ∷  -- 3098 Header position percent, 0.4 %/bit
    3 ∷  -- 3099 Header position percent maximum, 0.4 %/bit
    2 ∷  -- 3102 Unloading Auger swing out, 4 states/2 bit
    2 ∷  -- 3103 Unloading auger swing in, 4 states/2 bit
    2 ∷  -- 3104 Unloading auger swing out-auto, 4 states/2 bit
    2 ∷  -- 3105 Unloading auger swing in-auto, 4 states/2 bit
    2 ∷  -- 3106 Side hill left tilt, 4 states/2 bit
    2 ∷  -- 3107 Side hill right tilt, 4 states/2 bit
    2 ∷  -- 3108 Spreader speed increment, 4 states/2 bit
    2 ∷  -- 3109 Spreader speed decrement, 4 states/2 bit
    2 ∷  -- 3110 Precleaner open, 4 states/2 bit
    2 ∷  -- 3111 Precleaner close, 4 states/2 bit
    2 ∷  -- 3112 Open chaffer, 4 states/2 bit
    2 ∷  -- 3113 Close chaffer, 4 states/2 bit
    2 ∷  -- 3114 Open sieve, 4 states/2 bit
    2 ∷  -- 3115 Close sieve, 4 states/2 bit
    2 ∷  -- 3116 Move chopper vane left, 4 states/2 bit
    2 ∷  -- 3117 Move chopper vane right, 4 states/2 bit
    2 ∷  -- 3118 Quick stop switch, 4 states/2 bit
    2 ∷  -- 3119 Unloading auger engage/disengage, 4 states/2 bit
    2 ∷  -- 3120 Unloading auger fold, 4 states/2 bit
    2 ∷  -- 3121 Unloading auger unfold, 4 states/2 bit
    3 ∷  -- 3122 Max allowable cleaning shoe travel, 0.4 %/bit
    3 ∷  -- 3123 Right hand header height setpoint, 0.4 %/bit
    3 ∷  -- 3124 Left hand header height setpoint, 0.4 %/bit
    3 ∷  -- 3125 Left hand header height, 0.4 %/bit
    3 ∷  -- 3126 Right hand header height, 0.4 %/bit
    3 ∷  -- 3127 Header control response rate setpoint, 0.4 %/bit
    3 ∷  -- 3128 Header control response rate maximum setpoint, 0.4 %/bit
    3 ∷  -- 3129 Header control response rate minimum setpoint, 0.4 %/bit
    10 ∷  -- 3130 Product system tank water level, 0.5 L/bit
    2 ∷  -- 3131 Product fan speed, 1 rpm/bit
    11 ∷  -- 3132 Product system manifold pressure, 5 kPa/bit
    10 ∷  -- 3133 Product system pump discharge pressure, 0.5 kPa/bit
    7 ∷  -- 3134 Product fan hours, 0.1 hr/bit
    3 ∷  -- 3135 Right hand header height max setpoint, 0.4 %/bit
    3 ∷  -- 3136 Right hand header height min setpoint, 0.4 %/bit
    3 ∷  -- 3137 Left hand header height min setpoint, 0.4 %/bit
    3 ∷  -- 3138 Left hand header height max setpoint, 0.4 %/bit
    2 ∷  -- 3139 Right hand header unit speed, 1 rpm/bit
    2 ∷  -- 3140 Left hand header unit speed, 1 rpm/bit
    2 ∷  -- 3146 PGN of Message Being Configured, 1 message/count
    2 ∷  -- 3147 Parameter Being Included, 1 parameter(or object)/count
    2 ∷  -- 3148 Position of Configured Parameter, 1 item/count
    2 ∷  -- 3149 Message Will Be Used Proprietarily, n/a
    2 ∷  -- 3150 Message Will Use Transport Protocol, n/a
    2 ∷  -- 3151 First Parameter Only Being Identified, n/a
    2 ∷  -- 3152 Number of Parameters Included, 1 parameter/count
    2 ∷  -- 3153 Starting Bit for this Parameter, no step
    2 ∷  -- 3154 Parameter to be Located, 1 parameter (or object)/count
    2 ∷  -- 3155 Parameter Locate Command, 1 command/count
    2 ∷  -- 3329 Message Selection Control, 1 choice (or object)/count
    2 ∷  -- 3330 PGN of Configurable Message Desired, 1 message/count
    2 ∷  -- 3333 Feederhouse Height, 1 mm/bit
    []

-- those of row i; zeros where there is no such row
abbrev pub slot_at : ℕ → Slot
slot_at i = get_or slots (get_or column i slot_count) (slot 0 0)

-- each number of a column is that of a slot
unfoldable pub within : List ℕ → Bool
within [] = true
within (n ∷ ns) = ltb n slot_count && within ns

-- resolutions from 1 to 50,000 and offsets down to -125,000: what scaling relies on
unfoldable pub ruled : List Slot → Bool
ruled [] = true
ruled (s ∷ ss) = leb 1 s.resolution && leb s.resolution 50000 && leb s.below 125000 && ruled ss

-- a slot as a pair of its two numbers
abbrev pub pair : Slot → List ℕ
pair s = s.resolution ∷ s.below ∷ []

unfoldable pub pairs : List (List ℕ)
pairs = map pair slots
