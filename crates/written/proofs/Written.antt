-- A written message is heard as itself; and a frame that is heard, with priority 6 and first-only no, is the one that is written. So the messages that frames teach are
-- exactly the `Teachable` ones. Assumes nothing.
use Prim.Native.Nat.{ℕ, ◌+◌, ◌-◌, ◌*◌, ◌/◌, ◌%◌, ◌^◌, ◌≤◌, ◌<◌}
use mathlib.Core.Path.{◌≡◌, refl, sym, ap, ◌∙◌}
use mathlib.Core.Bool.{Bool, true, false, cond}
use mathlib.Core.List.{List, [], ◌∷◌}
use mathlib.Core.Option.{some}
use lib.Dec.{eqb, ltb}
use lib.ListN.{get_or, length, drop_of_length-le}
use lib.Seq.{drop-cons}
use native.Mathlib.Omega.{arith}
use native.Mathlib.Nat.{mod-eq_of_lt}
use native.Mathlib.Decide.{ℕ_discrete}
use borrow.Author.Tests.{ltb-false}
use Rattle.frame.specs.declared.Fields.{Fields}
use Rattle.frame.specs.Frame.{fields_of, destination_of, three_of, pgn_bytes, spn_bytes, spn_of, rest_of}
use Rattle.frame.proofs.Bytes.{pgn_back, pgn-bytes_back, spn_back, rest_back, spn-bytes_back}
use Rattle.message.specs.declared.Key.{Key}
use Rattle.message.specs.declared.Wire.{Wire}
use Rattle.message.specs.declared.Message.{Message}
use Rattle.message.specs.Message.{bytes as three, wire_of, message_of, heard_from, heard}
use Rattle.message.proofs.WellFormed.{WellFormed, well_formed, spn-bits, key-number, heard_exactly, heard-message, heard_ranges}
use Rattle.written.specs.Written.{id_of, flag, five_of, with_key, data_of, Teachable}

-- ---- five bytes, one by one

pub five-is : (l : List ℕ) → length l ≡ 5 → get_or l 0 0 ∷ get_or l 1 0 ∷ get_or l 2 0 ∷ get_or l 3 0 ∷ get_or l 4 0 ∷ [] ≡ l
five-is l h =
    sym (drop-cons l 0 0 (omega arith) ∙ rw (drop-cons l 1 0 (omega arith), drop-cons l 2 0 (omega arith), drop-cons l 3 0 (omega arith), drop-cons l 4 0 (omega arith), drop_of_length-le l {i = 5} (omega arith)) refl)

-- ---- the fields of a written identifier

module _ (key : Key) (s : key.source < 254) (d : key.destination < 256) where
  id-is : id_of key ≡ 414187520 + key.destination * 256 + key.source
  unfolding id_of
  id-is = let s' : key.source < 256 = omega arith in rw (mod-eq_of_lt d, mod-eq_of_lt s') (omega arith)

  pub fields_back : fields_of (id_of key) ≡ record { priority = 6; reserved = 0; page = 0; pf = 176; ps = key.destination; source = key.source }
  fields_back =
      let id = 414187520 + key.destination * 256 + key.source in
      let p₁ : id / 67108864 ≡ 6 = omega arith in
      let p₂ : id / 33554432 ≡ 12 = omega arith in
      let p₃ : id / 16777216 ≡ 24 = omega arith in
      let p₄ : id / 65536 ≡ 6320 = omega arith in
      let p₅ : id / 256 ≡ 1617920 + key.destination = omega arith in
      let q : (1617920 + key.destination) % 256 ≡ key.destination = omega (arith, d) in
      let r : id % 256 ≡ key.source = omega (arith, s, d) in
      rw (id-is, p₁, p₂, p₃, p₄, p₅, q, r)

-- ---- the fields of written bytes

flag_top : (p t : Bool) (n : ℕ) → n < 32 → (flag p * 128 + flag t * 64 + n) / 128 ≡ flag p
flag_top true true n h = omega arith
flag_top true false n h = omega arith
flag_top false true n h = omega arith
flag_top false false n h = omega arith

flag_mid : (p t : Bool) (n : ℕ) → n < 32 → (flag p * 128 + flag t * 64 + n) / 64 % 2 ≡ flag t
flag_mid true true n h = omega arith
flag_mid true false n h = omega arith
flag_mid false true n h = omega arith
flag_mid false false n h = omega arith

flag_low : (p t : Bool) (n : ℕ) → n < 32 → (flag p * 128 + flag t * 64 + n) / 32 % 2 ≡ 0
flag_low true true n h = omega arith
flag_low true false n h = omega arith
flag_low false true n h = omega arith
flag_low false false n h = omega arith

pub flag_rest : (p t : Bool) (n : ℕ) → n < 32 → (flag p * 128 + flag t * 64 + n) % 32 ≡ n
flag_rest true true n h = omega arith
flag_rest true false n h = omega arith
flag_rest false true n h = omega arith
flag_rest false false n h = omega arith

flag_is : (b : Bool) → eqb (flag b) 1 ≡ b
flag_is true = refl
flag_is false = refl

flag_le : (b : Bool) → flag b ≤ 1
flag_le true = omega arith
flag_le false = omega arith

module _ (m : Message) (t : Teachable m) where
  -- the wire of a written message
  abbrev wire : Wire
  wire = record {
    pgn = 45056 + 256 * m.key.k;
    spn = m.place.spn;
    position = m.position;
    n = m.head.n;
    proprietary = flag m.head.proprietary;
    transport = flag m.head.transport;
    first = 0;
    start = m.place.start + 1;
  }

  pub wire_back : wire_of (data_of m) ≡ wire
  unfolding five_of with_key
  wire_back =
      let n₀ : m.head.n < 32 = omega (arith, t.n) in
      let p : m.position < 32 = omega (arith, t.n, t.position.1) in
      let k : 45056 + 256 * m.key.k < 16777216 = omega (arith, t.k.1) in
      let s : m.place.start + 1 < 256 = omega (arith, t.start) in
      rw (
        mod-eq_of_lt n₀,
        mod-eq_of_lt s,
        flag_top m.head.proprietary m.head.transport m.head.n n₀,
        flag_mid m.head.proprietary m.head.transport m.head.n n₀,
        flag_low m.head.proprietary m.head.transport m.head.n n₀,
        flag_rest m.head.proprietary m.head.transport m.head.n n₀,
        pgn_back (45056 + 256 * m.key.k) k,
        spn_back m.place.spn m.position t.spn,
        rest_back m.place.spn m.position p,
      )

  -- ---- law 1: what is written is heard as itself

  written_well : WellFormed (id_of m.key) 8 (fields_of (id_of m.key)) (wire_of (data_of m))
  written_well =
      let f = fields_back m.key t.source t.destination in
      rw (f, wire_back) (record {
        identifier = rw (id-is m.key t.source t.destination) (omega (arith, t.source, t.destination));
        pgn = refl;
        long = refl;
        source = t.source;
        configured = (m.key.k, t.k.0, t.k.1, refl);
        flags = (flag_le m.head.proprietary, flag_le m.head.transport, omega arith);
        count = (omega (arith, t.position.0, t.position.1), omega (arith, t.n));
        position = t.position;
        first = λ z. absurd (omega (arith, z));
        start = (omega arith, omega (arith, t.start));
      })

  message_back : message_of (fields_of (id_of m.key)) (wire_of (data_of m)) ≡ m
  message_back =
      let f = fields_back m.key t.source t.destination in
      let d : (45056 + 256 * m.key.k) / 256 ≡ 176 + m.key.k = omega arith in
      let k : (45056 + 256 * m.key.k) / 256 % 256 - 176 ≡ m.key.k = ap (λ (x : ℕ). x % 256 - 176) d ∙ ap (λ (x : ℕ). x - 176) (mod-eq_of_lt (omega (arith, t.k.1))) ∙ omega arith in
      let s : m.place.start + 1 - 1 ≡ m.place.start = omega arith in
      ap (λ (x : Fields). message_of x (wire_of (data_of m))) f
      ∙ ap (λ (w : Wire). message_of (record { priority = 6; reserved = 0; page = 0; pf = 176; ps = m.key.destination; source = m.key.source }) w) wire_back
      ∙ rw (k, s, flag_is m.head.proprietary, flag_is m.head.transport)

  pub heard_back : heard (id_of m.key) 8 (data_of m) ≡ record { number = 0; message = some m }
  unfolding heard
  heard_back =
      ap (λ (r : ℕ). heard_from r (fields_of (id_of m.key)) (wire_of (data_of m))) ((well_formed (id_of m.key) 8 (fields_of (id_of m.key)) (wire_of (data_of m))).1 written_well)
      ∙ ap (λ (x : Message). record { number = 0; message = some x }) message_back

-- the top flag of a byte, and of what is left
bit_is : (x : ℕ) → x ≤ 1 → flag (eqb x 1) ≡ x
bit_is x h = go (ℕ_discrete x 1)
  where
    go : Dec (x ≡ 1) → flag (eqb x 1) ≡ x
    go (yes e) = rw e
    go (no n) = let z : x ≡ 0 = omega arith in rw z

head_back : (b : ℕ) → b < 256 → b / 32 % 2 ≡ 0 → flag (eqb (b / 128) 1) * 128 + flag (eqb (b / 64 % 2) 1) * 64 + b % 32 % 32 ≡ b
head_back b h z =
    let p : b / 128 ≤ 1 = omega arith in
    let t : b / 64 % 2 ≤ 1 = omega arith in
    let u : b / 64 / 2 ≡ b / 128 = omega arith in
    let v : b / 32 / 2 ≡ b / 64 = omega arith in
    let w : b % 32 % 32 ≡ b % 32 = mod-eq_of_lt (omega arith) in
    rw (bit_is (b / 128) p, bit_is (b / 64 % 2) t, w) (omega arith)

start_back : (s : ℕ) → 1 ≤ s → s < 256 → (s - 1 + 1) % 256 ≡ s
start_back s a b = let e : s - 1 + 1 ≡ s = omega arith in rw e (mod-eq_of_lt b)

-- the first eight bytes of a list; of a list of eight bytes they are all
abbrev pub eight : List ℕ → List ℕ
eight d = get_or d 0 0 ∷ get_or d 1 0 ∷ get_or d 2 0 ∷ get_or d 3 0 ∷ get_or d 4 0 ∷ get_or d 5 0 ∷ get_or d 6 0 ∷ get_or d 7 0 ∷ []

pub all_eight : (d : List ℕ) → length d ≡ 8 → eight d ≡ d
all_eight [] h = absurd (omega arith)
all_eight (a ∷ []) h = absurd (omega arith)
all_eight (a ∷ b ∷ []) h = absurd (omega arith)
all_eight (a ∷ b ∷ c ∷ []) h = absurd (omega arith)
all_eight (a ∷ b ∷ c ∷ d ∷ []) h = absurd (omega arith)
all_eight (a ∷ b ∷ c ∷ d ∷ e ∷ []) h = absurd (omega arith)
all_eight (a ∷ b ∷ c ∷ d ∷ e ∷ f ∷ []) h = absurd (omega arith)
all_eight (a ∷ b ∷ c ∷ d ∷ e ∷ f ∷ g ∷ []) h = absurd (omega arith)
all_eight (a ∷ b ∷ c ∷ d ∷ e ∷ f ∷ g ∷ i ∷ []) h = refl
all_eight (a ∷ b ∷ c ∷ d ∷ e ∷ f ∷ g ∷ i ∷ x ∷ l) h = absurd (omega arith)

-- ---- law 2: every message that is heard is teachable; with priority 6 and first-only no, its frame is the written one

module _ (id len : ℕ) (d : List ℕ) (bytes : (i : ℕ) → get_or d i 0 < 256) (m : Message) (e : (heard id len d).message ≡ some m) where
  abbrev well : WellFormed id len (fields_of id) (wire_of d)
  well = (heard_exactly id len d).0 (heard-message id len d m e).0

  pf_low : ((fields_of id).reserved ≡ 0) × ((fields_of id).page ≡ 0) × ((fields_of id).pf ≡ 176)
  pf_low = go (ltb (fields_of id).pf 240) refl well.pgn
    where
      low_pf : (r p f : ℕ) → r * 131072 + p * 65536 + f * 256 + 0 ≡ 45056 → (r ≡ 0) × (p ≡ 0) × (f ≡ 176)
      low_pf r p f h =
          let a : r ≡ 0 = omega arith in
          let b : p ≡ 0 = omega arith in
          (a, b, omega arith)

      high_pf : (r p f s : ℕ) → 240 ≤ f → r * 131072 + p * 65536 + f * 256 + s ≡ 45056 → ⊥
      high_pf r p f s g h = omega arith

      go : (b : Bool) → ltb (fields_of id).pf 240 ≡ b
          → (fields_of id).reserved * 131072 + (fields_of id).page * 65536 + (fields_of id).pf * 256 + cond b 0 (fields_of id).ps ≡ 45056
          → ((fields_of id).reserved ≡ 0) × ((fields_of id).page ≡ 0) × ((fields_of id).pf ≡ 176)
      go true q h = low_pf (fields_of id).reserved (fields_of id).page (fields_of id).pf h
      go false q h = absurd (high_pf (fields_of id).reserved (fields_of id).page (fields_of id).pf (fields_of id).ps (ltb-false (fields_of id).pf 240 q) h)

  destination-is : destination_of (fields_of id) ≡ (fields_of id).ps
  destination-is = rw pf_low.2

  pub heard_teachable : Teachable m
  heard_teachable =
      let r = heard_ranges id len d bytes m e in
      let q = (heard-message id len d m e).1 in
      record {
        source = r.source;
        destination = rw (q, destination-is) (omega arith);
        k = r.k;
        n = rw q (omega arith);
        position = r.position;
        spn = r.spn;
        start = rw q (omega (arith, well.start.1));
      }

  -- the identifier, but for the priority; and the bytes, but for first-only
  module _ (six : (fields_of id).priority ≡ 6) (no : (wire_of d).first ≡ 0) where
    pub id-written : id ≡ id_of m.key
    unfolding id_of
    id-written =
        let q = (heard-message id len d m e).1 in
        let (a, b, c) = pf_low in
        rw (q, destination-is) (rebuilt id well.identifier six a b c)
      where
        rebuilt : (x : ℕ) → x < 2 ^ 29 → x / 67108864 % 8 ≡ 6 → x / 33554432 % 2 ≡ 0 → x / 16777216 % 2 ≡ 0 → x / 65536 % 256 ≡ 176
            → x ≡ 6 * 67108864 + 176 * 65536 + x / 256 % 256 % 256 * 256 + x % 256 % 256
        rebuilt x h p r g f = last x (by_256 x (by_2 (x / 33554432) (x / 16777216) 12 (by_2 (x / 67108864) (x / 33554432) 6 (top x h p) r (halves x)) g (halves' x)) f)
          where
            top : (x : ℕ) → x < 536870912 → x / 67108864 % 8 ≡ 6 → x / 67108864 ≡ 6
            top x h p = omega arith

            halves : (x : ℕ) → x / 33554432 / 2 ≡ x / 67108864
            halves x = omega arith

            halves' : (x : ℕ) → x / 16777216 / 2 ≡ x / 33554432
            halves' x = omega arith

            by_2 : (q y n : ℕ) → q ≡ n → y % 2 ≡ 0 → y / 2 ≡ q → y ≡ n * 2
            by_2 q y n e r h = omega arith

            by_256 : (x : ℕ) → x / 16777216 ≡ 24 → x / 65536 % 256 ≡ 176 → x / 65536 ≡ 6320
            by_256 x e r = omega arith

            last : (x : ℕ) → x / 65536 ≡ 6320 → x ≡ 414187520 + x / 256 % 256 % 256 * 256 + x % 256 % 256
            last x e = omega arith

    pub data_written : eight d ≡ data_of m
    unfolding five_of with_key
    data_written =
        let q = (heard-message id len d m e).1 in
        let k = key-number id len (fields_of id) (wire_of d) (spn-bits d bytes) well in
        let a : pgn_bytes (three_of (three d 1)) ≡ three d 1 = pgn-bytes_back (three d 1) (record { low = bytes 0; mid = bytes 1; high = bytes 2 }) in
        let b : spn_bytes (spn_of (three d 4)) (rest_of (three d 4)) ≡ three d 4 = spn-bytes_back (three d 4) (record { low = bytes 3; mid = bytes 4; high = bytes 5 }) in
        let c : flag (eqb (get_or d 6 0 / 128) 1) * 128 + flag (eqb (get_or d 6 0 / 64 % 2) 1) * 64 + get_or d 6 0 % 32 % 32 ≡ get_or d 6 0 = head_back (get_or d 6 0) (bytes 6) no in
        let s : (get_or d 7 0 - 1 + 1) % 256 ≡ get_or d 7 0 = start_back (get_or d 7 0) well.start.0 (bytes 7) in
        sym (ap data_of q ∙ ap (λ (n : ℕ). (pgn_bytes n).first ∷ (pgn_bytes n).second ∷ (pgn_bytes n).third ∷ five_of (message_of (fields_of id) (wire_of d)).head (rest_of (three d 4)) (message_of (fields_of id) (wire_of d)).place) (sym k)
        ∙ (λ i. (a i).first ∷ (a i).second ∷ (a i).third ∷ (b i).first ∷ (b i).second ∷ (b i).third ∷ c i ∷ s i ∷ []))
