-- The rows of the two dictionaries, that of 002 and the older one of 000, and their rule (01, "A set and its judgement"; 02, Req 10).
-- Assumes nothing.
use Rattle.std.specs.Prelude.{ℕ, suc, Bool, true, cond, ◌&&◌, eqb, leb, get_or}
use mathlib.Core.List.{List, [], ◌∷◌, map}
use Rattle.rowrule.specs.declared.Row.{Row}

-- a row: an SPN and the width of its parameter in bits
abbrev pub row : ℕ → ℕ → Row
row s w = record { spn = s; width = w }

-- row i of a list of rows, counted from 0; zeros past its end
abbrev pub row_in : List Row → ℕ → Row
row_in rows i = get_or rows i (row 0 0)

-- "once, in rising order", "1 to 32 bits": each SPN is above the one before it, the first at least `least`, and each width is 1 to 32
unfoldable pub ruled : ℕ → List Row → Bool
ruled least [] = true
ruled least (r ∷ rows) = leb least r.spn && leb 1 r.width && leb r.width 32 && ruled (suc r.spn) rows

-- how many rows there are: 130 of 002's Appendix C, and ten more of its 5.3.1 and 5.3.2
abbrev pub row_count : ℕ
row_count = 140

-- "each SPN in 002 with a fixed length of 1 to 32 bits .. with its width"
unfoldable pub table : List Row
table =
    row 1488 16 ∷  -- Thresher Speed
    row 1489 8 ∷  -- Cleaning Fan Speed
    row 1490 16 ∷  -- Header Backshaft Speed
    row 1497 2 ∷  -- Unloading Auger Drive
    row 1498 2 ∷  -- Header Drive
    row 1499 2 ∷  -- Separator Drive
    row 1505 8 ∷  -- Automatic Header Sensitivity Adjustment
    row 1506 8 ∷  -- Automatic Header Rate Adjustment Input
    row 1508 8 ∷  -- Hydraulic Reservoir Temperature
    row 1509 8 ∷  -- Thresher Separator Hydraulic Drive 1 Temperature
    row 1510 8 ∷  -- Chopper Vane Angle Adjustment
    row 1511 8 ∷  -- Right side Cleaning Shoe Relative Grain Loss
    row 1512 8 ∷  -- Left side Cleaning Shoe Relative Grain Loss
    row 1513 8 ∷  -- Right side Separator Relative Grain Loss
    row 1514 8 ∷  -- Left side Separator Relative Grain Loss
    row 1517 8 ∷  -- Header Lift Cylinder Pressure
    row 1518 8 ∷  -- Header Sensor Identification
    row 1519 2 ∷  -- Header Raise Valve Drive
    row 1520 2 ∷  -- Header Lower Valve Drive
    row 1521 2 ∷  -- Header Tilt Left Valve Drive
    row 1522 2 ∷  -- Header Tilt Right Valve Drive
    row 1523 2 ∷  -- Header Lift Cylinder Pressure Diverted Valve Drive
    row 1524 2 ∷  -- Reel Position Forward Actuator
    row 1525 2 ∷  -- Reel Position Aft Actuator
    row 1526 2 ∷  -- Reel Position Raise Actuator
    row 1527 2 ∷  -- Reel Position Lower Actuator
    row 1528 2 ∷  -- Header Drop Rate Control Valve Drive
    row 1529 2 ∷  -- Header Lift Cylinder Accumulator Shutoff Valve Drive
    row 1530 2 ∷  -- Unloading auger flow bypass valve drive
    row 1531 2 ∷  -- Reel Drive Motor Speed Increase Valve Drive
    row 1532 2 ∷  -- Reel Drive Motor Speed Decrease Valve Drive
    row 1534 16 ∷  -- Header Leftmost Height
    row 1535 16 ∷  -- Header Rightmost Height
    row 1536 16 ∷  -- Header Center Height
    row 1537 8 ∷  -- Reel Fore-Aft Position
    row 1538 8 ∷  -- Reel Up-Down Position
    row 1539 8 ∷  -- Header Lateral Tilt Angle
    row 1540 8 ∷  -- Reel Speed Actuator Position
    row 1541 16 ∷  -- Reel Speed
    row 1554 16 ∷  -- Clean Grain Elevator Speed
    row 2989 16 ∷  -- Combine separator speed
    row 2991 8 ∷  -- Tailings volume
    row 2992 2 ∷  -- Move reel forward
    row 2993 2 ∷  -- Move reel aft
    row 2994 2 ∷  -- Reel raise
    row 2995 2 ∷  -- Reel lower
    row 2996 2 ∷  -- Header raise slow
    row 2997 2 ∷  -- Header lower slow
    row 2998 2 ∷  -- Header raise fast
    row 2999 2 ∷  -- Header lower fast
    row 3000 2 ∷  -- Tilt header left
    row 3001 2 ∷  -- Tilt header right
    row 3002 2 ∷  -- Header fold
    row 3003 2 ∷  -- Header unfold
    row 3004 2 ∷  -- Draper speed increment
    row 3005 2 ∷  -- Draper speed decrement
    row 3006 2 ∷  -- Reel speed increment
    row 3007 2 ∷  -- Reel speed decrement
    row 3008 2 ∷  -- Threshing clearance increment
    row 3009 2 ∷  -- Threshing clearance decrement
    row 3010 2 ∷  -- Threshing speed increment
    row 3011 2 ∷  -- Threshing speed decrement
    row 3012 2 ∷  -- Product fan speed increment
    row 3013 2 ∷  -- Product fan speed decrement
    row 3015 2 ∷  -- Implement fold down
    row 3016 2 ∷  -- Implement fold up
    row 3017 2 ∷  -- RH header raise
    row 3018 2 ∷  -- LH header raise
    row 3019 2 ∷  -- Product fan engage mode
    row 3020 2 ∷  -- Augers engage mode
    row 3021 2 ∷  -- Product basket fill state
    row 3022 2 ∷  -- Augers enable mode
    row 3023 2 ∷  -- Header height control mode
    row 3024 2 ∷  -- Header remote tether control mode
    row 3025 2 ∷  -- Lubrication control mode
    row 3032 8 ∷  -- Right Brake Pedal Position
    row 3033 8 ∷  -- Left Brake Pedal Position
    row 3042 16 ∷  -- Requested Wheel Speed
    row 3088 8 ∷  -- Header height vertical rate control
    row 3089 8 ∷  -- Header height sensitivity control
    row 3090 8 ∷  -- Header height setpoint change
    row 3091 8 ∷  -- Header height setpoint change sequence number
    row 3092 16 ∷  -- Header platform height
    row 3093 16 ∷  -- Header platform height maximum
    row 3096 8 ∷  -- Header float pressure
    row 3097 8 ∷  -- Header float pressure maximum
    row 3098 8 ∷  -- Header position percent
    row 3099 8 ∷  -- Header position percent maximum
    row 3102 2 ∷  -- Unloading Auger swing out
    row 3103 2 ∷  -- Unloading auger swing in
    row 3104 2 ∷  -- Unloading auger swing out-auto
    row 3105 2 ∷  -- Unloading auger swing in-auto
    row 3106 2 ∷  -- Side hill left tilt
    row 3107 2 ∷  -- Side hill right tilt
    row 3108 2 ∷  -- Spreader speed increment
    row 3109 2 ∷  -- Spreader speed decrement
    row 3110 2 ∷  -- Precleaner open
    row 3111 2 ∷  -- Precleaner close
    row 3112 2 ∷  -- Open chaffer
    row 3113 2 ∷  -- Close chaffer
    row 3114 2 ∷  -- Open sieve
    row 3115 2 ∷  -- Close sieve
    row 3116 2 ∷  -- Move chopper vane left
    row 3117 2 ∷  -- Move chopper vane right
    row 3118 2 ∷  -- Quick stop switch
    row 3119 2 ∷  -- Unloading auger engage/disengage
    row 3120 2 ∷  -- Unloading auger fold
    row 3121 2 ∷  -- Unloading auger unfold
    row 3122 8 ∷  -- Max allowable cleaning shoe travel
    row 3123 8 ∷  -- Right hand header height setpoint
    row 3124 8 ∷  -- Left hand header height setpoint
    row 3125 8 ∷  -- Left hand header height
    row 3126 8 ∷  -- Right hand header height
    row 3127 8 ∷  -- Header control response rate setpoint
    row 3128 8 ∷  -- Header control response rate maximum setpoint
    row 3129 8 ∷  -- Header control response rate minimum setpoint
    row 3130 16 ∷  -- Product system tank water level
    row 3131 16 ∷  -- Product fan speed
    row 3132 8 ∷  -- Product system manifold pressure
    row 3133 16 ∷  -- Product system pump discharge pressure
    row 3134 16 ∷  -- Product fan hours
    row 3135 8 ∷  -- Right hand header height max setpoint
    row 3136 8 ∷  -- Right hand header height min setpoint
    row 3137 8 ∷  -- Left hand header height min setpoint
    row 3138 8 ∷  -- Left hand header height max setpoint
    row 3139 16 ∷  -- Right hand header unit speed
    row 3140 16 ∷  -- Left hand header unit speed
    row 3146 24 ∷  -- PGN of Message Being Configured
    row 3147 19 ∷  -- Parameter Being Included
    row 3148 5 ∷  -- Position of Configured Parameter
    row 3149 1 ∷  -- Message Will Be Used Proprietarily
    row 3150 1 ∷  -- Message Will Use Transport Protocol
    row 3151 1 ∷  -- First Parameter Only Being Identified
    row 3152 5 ∷  -- Number of Parameters Included
    row 3153 8 ∷  -- Starting Bit for this Parameter
    row 3154 19 ∷  -- Parameter to be Located
    row 3155 8 ∷  -- Parameter Locate Command
    row 3329 8 ∷  -- Message Selection Control
    row 3330 24 ∷  -- PGN of Configurable Message Desired
    row 3333 16 ∷  -- Feederhouse Height
    []

-- row i of the dictionary
abbrev pub row_at : ℕ → Row
row_at i = row_in table i

-- "Older combines follow the 2004 paper (source document 000)": each SPN in 000 with a fixed length of 1 to 32 bits, all of them in its 5.3, with its width
unfoldable pub table2004 : List Row
table2004 =
    row 3146 24 ∷  -- 5.3.1.1 PGN of Message Being Configured
    row 3147 19 ∷  -- 5.3.1.2 Parameter Being Included
    row 3148 5 ∷  -- 5.3.1.3 Position of Configured Parameter
    row 3149 1 ∷  -- 5.3.1.5 Message Will Be Used Proprietarily
    row 3150 1 ∷  -- 5.3.1.6 Message Will Use Transport Protocol
    row 3151 1 ∷  -- 5.3.1.7 First Parameter Only Being Identified
    row 3152 5 ∷  -- 5.3.1.4 Number of Parameters Included
    row 3153 8 ∷  -- 5.3.1.8 Starting Bit for this Parameter
    row 3154 19 ∷  -- 5.3.2.1 Parameter to be Located
    row 3155 8 ∷  -- 5.3.2.2 Parameter Locate Command
    row 3329 8 ∷  -- 5.3.3.1 Message Selection Control
    row 3330 24 ∷  -- 5.3.3.2 PGN of Configurable Message Desired
    []

-- "Keep both dictionaries": the rows of an edition, 000's of 2004 and 002's of any other number
abbrev pub rows_by : ℕ → List Row
rows_by edition = cond (eqb edition 2004) table2004 table

-- ---- rows as pairs of numbers, SPN and width, and back (`pairs_back`)

abbrev pub pair : Row → List ℕ
pair r = r.spn ∷ r.width ∷ []

unfoldable pub pairs : List (List ℕ)
pairs = map pair table

unfoldable pub pairs2004 : List (List ℕ)
pairs2004 = map pair table2004

-- and back: the rows that such pairs stand for
abbrev pub row_of_pair : List ℕ → Row
row_of_pair p = row (get_or p 0 0) (get_or p 1 0)

abbrev pub rows_in : List (List ℕ) → List Row
rows_in ps = map row_of_pair ps
