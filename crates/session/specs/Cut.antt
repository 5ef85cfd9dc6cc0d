-- The data of the frames (02, Req 14; J1939-21), and what a sender cuts a payload up into. Assumes nothing.
use Rattle.std.specs.Prelude.{ℕ, zero, suc, ◌+◌, ◌-◌, ◌*◌, ◌/◌, ◌%◌, ◌^◌, List, [], ◌∷◌, ◌++◌, length, take, drop, replicate}
use Rattle.frame.specs.Frame.{three_of, pgn_bytes}
use Rattle.message.specs.Message.{byte, bytes}
use Rattle.session.specs.Session.{per_packet, packets_for}

-- ---- a request to send: its control byte is 16, "size bytes 2 and 3, packets byte 4, PGN of the payload bytes 6 to 8", the least significant first

abbrev pub control_of : List ℕ → ℕ
control_of d = byte d 1

abbrev pub size_said : List ℕ → ℕ
size_said d = byte d 2 + byte d 3 * 2 ^ 8

abbrev pub packets_said : List ℕ → ℕ
packets_said d = byte d 4

abbrev pub pgn_said : List ℕ → ℕ
pgn_said d = three_of (bytes d 6)

-- ---- a packet: "sequence byte 1", and 7 bytes

-- the first 7 bytes of a list, filled up where it has fewer
unfoldable pub seven_from : ℕ → List ℕ → List ℕ
seven_from fill l = take per_packet (l ++ replicate per_packet fill)

abbrev pub number_of : List ℕ → ℕ
number_of d = byte d 1

-- bytes 2 to 8; the data of a frame is always 8 bytes, so that nothing is filled up
abbrev pub seven_of : List ℕ → List ℕ
seven_of d = seven_from 0 (drop 1 d)

-- ---- the sender

-- the data of the request to send so many bytes of a PGN; byte 5 says nothing here
abbrev pub request_of : ℕ → ℕ → List ℕ
request_of size pgn = 16 ∷ size % 2 ^ 8 ∷ size / 2 ^ 8 ∷ packets_for size ∷ 255 ∷ (pgn_bytes pgn).first ∷ (pgn_bytes pgn).second ∷ (pgn_bytes pgn).third ∷ []

-- the data of packet n of a payload: its 7 bytes from byte 7 (n - 1) on, and FFh behind the payload's end
abbrev pub packet_of : List ℕ → ℕ → List ℕ
packet_of payload n = n ∷ seven_from 255 (drop (per_packet * (n - 1)) payload)

-- the first n packets, the latest first
unfoldable pub cut_to : List ℕ → ℕ → List (List ℕ)
cut_to payload zero = []
cut_to payload (suc n) = packet_of payload (suc n) ∷ cut_to payload n

-- "what the sender cut up": all packets of a payload
abbrev pub cut_up : List ℕ → List (List ℕ)
cut_up payload = cut_to payload (packets_for (length payload))
