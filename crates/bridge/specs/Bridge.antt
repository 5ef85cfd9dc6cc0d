-- What the bridge's calls answer and leave (02, Req 09), on any words: the counters of twelve pairs, the queues of four ports, and the filters beside them.
-- Assumes nothing.
use Rattle.std.specs.Prelude.{Bool, ◌&&◌, cond, List, ℕ, ◌+◌, ◌*◌, ◌-◌, eqb, leb, replicate, Option, Some, None}
use Rattle.words.specs.Rows.{row_at}
use Rattle.answers.specs.Answers.{Said, in_numbers, plain, done}
use Rattle.pairs.specs.Row.{width, row_passes}
use Rattle.ports.specs.Filters.{two_ports, pair_of, decided}
use Rattle.counters.specs.declared.Counters.{Counters}
use Rattle.counters.specs.declared.Fate.{Fate}
use Rattle.counters.specs.declared.Fate.TheVariants.{Refused, Filtered, Turned, Queued, Sent}
use Rattle.counters.specs.Words.{no_counters, counters_at, noted_at}
use Rattle.queue.specs.Row.{word_of, from_in, id_in, how_many, Entered, enters_at, Gone, leaves_at, waiting_at}
use Rattle.bridge.specs.declared.Standing.{Standing}

-- the words that the caller lends
pub record Bridge : Type 0 where
  pub counters : List ℕ
  pub queues : List ℕ

abbrev pub bridge : List ℕ → List ℕ → Bridge
bridge c q = record { counters = c; queues = q }

-- "fresh counters and queues"
unfoldable pub fresh_bridge : Bridge
fresh_bridge = bridge (replicate 72 0) (replicate 260 0)

-- a port is 1 to 4
unfoldable pub is_port : ℕ → Bool
is_port p = leb 1 p && leb p 4

-- "the three other ports", rising
abbrev pub first_other : ℕ → ℕ
first_other p = cond (eqb p 1) 2 1

abbrev pub second_other : ℕ → ℕ
second_other p = cond (leb p 2) 3 2

abbrev pub third_other : ℕ → ℕ
third_other p = cond (leb p 3) 4 3

-- the same by numbers: the k-th port other than one, all counted from 0
abbrev pub other : ℕ → ℕ → ℕ
other i k = cond (leb i k) (k + 1) k

-- the number of the pair from a port to its k-th other, counted from 0: the three pairs from a port follow each other
abbrev pub pair_from : ℕ → ℕ → ℕ
pair_from from k = (from - 1) * 3 + k

-- whether the filter of that pair lets a PGN pass
abbrev pub passes_from : List ℕ → ℕ → ℕ → ℕ → Bool
passes_from w from k g = row_passes (row_at width w (pair_from from k)) g

-- "1 (refused)", "26 (turned away)"; the filter's answer 0 with detail 0 is "filtered", and 0 with detail 1 says of one that is offered that it is queued, of a slot that one is sent
unfoldable pub answer_to : Fate → Said
answer_to Refused = plain 1
answer_to Filtered = done 0
answer_to Turned = plain 26
answer_to Queued = done 1
answer_to Sent = done 1

-- ---- a frame at one port

-- what becomes of it, and the queues afterwards
pub record Met : Type 0 where
  pub fate : Fate
  pub queues : List ℕ

abbrev pub met : Fate → List ℕ → Met
met f q = record { fate = f; queues = q }

-- by what the filter says (an answer of `decide`), and by what entering the queue comes to: "1 (refused), then 26 (turned away) exactly when the filter passes the frame and 64 wait there"
unfoldable pub met_by : Said → Entered → List ℕ → Met
met_by d e q = cond (eqb d.number 0) (cond (eqb d.detail 0) (met Filtered q) (met (cond e.fits Queued Turned) e.words)) (met Refused q)

-- the same of a frame whose identifier is one, by whether its pair lets it pass
unfoldable pub passed_by : Bool → Entered → List ℕ → Met
passed_by b e q = cond b (met (cond e.fits Queued Turned) e.words) (met Filtered q)

-- what becomes of it, and all the words afterwards
pub record Replied : Type 0 where
  pub fate : Fate
  pub words : Bridge

abbrev pub replied : Fate → Bridge → Replied
replied f b = record { fate = f; words = b }

-- it is counted at its pair
abbrev pub counted_as : Bridge → ℕ → Met → Replied
counted_as b pair m = replied m.fate (bridge (noted_at b.counters pair m.fate) m.queues)

unfoldable pub offered_to : Bridge → List ℕ → ℕ → ℕ → ℕ → Replied
offered_to b w from to id = counted_as b (pair_of from to) (met_by (decided w from to id) (enters_at b.queues (to - 1) (word_of from id)) b.queues)

-- ---- a frame at the three other ports

-- the counters after it was refused at each
abbrev pub refused_from : List ℕ → ℕ → List ℕ
refused_from c from = noted_at (noted_at (noted_at c (pair_from from 0) Refused) (pair_from from 1) Refused) (pair_from from 2) Refused

-- what becomes of it at each of the three, rising; or that it was no port
abbrev pub Offered : Type 0
Offered = Option (Fate × Fate × Fate)

abbrev pub To : Fate → Fate → Fate → Offered
To x y z = Some (x, y, z)

abbrev pub NoPort : Offered
NoPort = None

-- with the words afterwards
pub record Offers : Type 0 where
  pub what : Offered
  pub words : Bridge

abbrev pub offers : Offered → Bridge → Offers
offers o b = record { what = o; words = b }

-- each port's turn comes after the one before it
abbrev pub last_offer : Fate → Fate → Replied → Offers
last_offer x y r = offers (To x y r.fate) r.words

abbrev pub then_third : List ℕ → ℕ → ℕ → Fate → Replied → Offers
then_third w from id x r = last_offer x r.fate (offered_to r.words w from (third_other from) id)

abbrev pub then_second : List ℕ → ℕ → ℕ → Replied → Offers
then_second w from id r = then_third w from id r.fate (offered_to r.words w from (second_other from) id)

-- no port: nothing changes
unfoldable pub offered : Bridge → List ℕ → ℕ → ℕ → Offers
offered b w from id = cond (is_port from) (then_second w from id (offered_to b w from (first_other from) id)) (offers NoPort b)

-- the same in numbers: 0 and what each of the three answers; or 15, said once, and zeros that are no answers
pub record Answers : Type 0 where
  pub told : Said
  pub first : Said
  pub second : Said
  pub third : Said

abbrev pub answers : Said → Said → Said → Said → Answers
answers t x y z = record { told = t; first = x; second = y; third = z }

abbrev pub answers_of : Offered → Answers
answers_of (Some (x, y, z)) = answers (plain 0) (answer_to x) (answer_to y) (answer_to z)
answers_of None = answers (plain 15) (plain 0) (plain 0) (plain 0)

-- with the words afterwards
pub record Answering : Type 0 where
  pub said : Answers
  pub words : Bridge

abbrev pub answering : Answers → Bridge → Answering
answering a b = record { said = a; words = b }

abbrev pub in_answers : Offers → Answering
in_answers o = answering (answers_of o.what) o.words

-- ---- a slot

-- the answer, the words afterwards, and what the two lent numbers hold then: the port that the frame came from, and its identifier
pub record Slotted : Type 0 where
  pub answer : Said
  pub words : Bridge
  pub from : ℕ
  pub id : ℕ

abbrev pub slotted_as : Said → Bridge → ℕ → ℕ → Slotted
slotted_as a b f i = record { answer = a; words = b; from = f; id = i }

-- the frame that left is counted at its pair; where none did, the numbers stay
abbrev pub sent_from : Bridge → ℕ → ℕ → ℕ → Gone → Slotted
sent_from b port f i g =
    cond g.any (slotted_as (answer_to Sent) (bridge (noted_at b.counters (pair_of (from_in g.word) port) Sent) g.words) (from_in g.word) (id_in g.word))
    (slotted_as (plain 0) (bridge b.counters g.words) f i)

unfoldable pub slotted : Bridge → ℕ → ℕ → ℕ → Slotted
slotted b port f i = cond (is_port port) (sent_from b port f i (leaves_at b.queues (port - 1))) (slotted_as (plain 15) b f i)

-- ---- what stands in the words

pub record Stands : Type 0 where
  pub answer : Said
  pub counters : Counters
  pub waiting : ℕ

abbrev pub stands : Said → Counters → ℕ → Stands
stands a c n = record { answer = a; counters = c; waiting = n }

abbrev pub standing_as : Standing → Stands
standing_as r = stands (in_numbers r.answer) r.counters r.waiting

-- the counters of a pair, and how many of the frames that wait at its second port came from its first
unfoldable pub standing : Bridge → ℕ → ℕ → Stands
standing b from to =
    cond (two_ports from to) (stands (plain 0) (counters_at b.counters (pair_of from to)) (how_many from (waiting_at b.queues (to - 1)))) (stands (plain 15) no_counters 0)
