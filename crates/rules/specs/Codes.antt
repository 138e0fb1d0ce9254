-- SPE packets of one byte: a command to the amplifier, and the acknowledgement that it sends back.
use Rattle.std.specs.Prelude.{ℕ, Bool, ◌&&◌, not, List, [], ◌∷◌, eqb, get_or}
use Rattle.rules.specs.Bytes.{one_of, same}

-- The twenty command codes.
abbrev pub codes : List ℕ
codes =
    0x01 ∷  -- input
    0x02 ∷ 0x03 ∷  -- band down, up
    0x04 ∷  -- antenna
    0x05 ∷ 0x06 ∷  -- L down, up
    0x07 ∷ 0x08 ∷  -- C down, up
    0x09 ∷  -- tune
    0x0A ∷  -- switch off
    0x0B ∷  -- power
    0x0C ∷  -- display
    0x0D ∷  -- operate
    0x0E ∷  -- CAT
    0x0F ∷ 0x10 ∷  -- left, right
    0x11 ∷  -- set
    0x82 ∷ 0x83 ∷  -- light on, off
    0x90 ∷  -- status
    []

unfoldable pub is_code : ℕ → Bool
is_code c = one_of codes c

-- A status request is answered by a report, so 90 is never acknowledged.
unfoldable pub is_ack_code : ℕ → Bool
is_ack_code c = is_code c && not (eqb c 0x90)

-- a packet with a code has six bytes
abbrev pub packet_length : ℕ
packet_length = 6

-- three marks, the count 01, the code, and its sum, which is the code again
abbrev pub packet : ℕ → ℕ → List ℕ
packet mark c = mark ∷ mark ∷ mark ∷ 0x01 ∷ c ∷ c ∷ []

-- the bytes are a packet with that mark, whatever its code
abbrev pub is_packet : ℕ → List ℕ → Bool
is_packet mark bs = same bs (packet mark (get_or bs 4 0))

-- A family 3 frame is 55 55 55 01 c c, where c is a command code.
abbrev pub command : ℕ → List ℕ
command c = packet 0x55 c

unfoldable pub is_command : List ℕ → Bool
is_command bs = is_packet 0x55 bs && is_code (get_or bs 4 0)

-- An acknowledgement is AA AA AA 01 c c, where c is a code but 90.
abbrev pub ack : ℕ → List ℕ
ack c = packet 0xAA c

unfoldable pub is_ack : List ℕ → Bool
is_ack bs = is_packet 0xAA bs && is_ack_code (get_or bs 4 0)
