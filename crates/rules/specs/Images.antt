-- Saved images. Bytes are numbers below 256. Assumes nothing.
use Rattle.std.specs.Prelude.{Bool, ◌&&◌, List, ◌∷◌, [], ◌++◌, ℕ, ◌/◌, ◌%◌, ◌*◌, ◌+◌, ◌-◌, zero, suc, eqb, leb, length, take, get_or, drop}
use Rattle.rules.specs.Looks.{Look, looked}
use Rattle.rules.specs.Records.{Rec, held}
use Rattle.rules.specs.Refusals.{on_queue, room}
use Rattle.rules.specs.Choices.{unless}

-- two bytes, and four bytes, big-endian
unfoldable pub two_bytes : ℕ → List ℕ
two_bytes n = n / 256 % 256 ∷ n % 256 ∷ []

unfoldable pub four_bytes : ℕ → List ℕ
four_bytes v = v / 16777216 % 256 ∷ v / 65536 % 256 ∷ v / 256 % 256 ∷ v % 256 ∷ []

-- the number that bytes stand for, big-endian, n standing before them
unfoldable pub big_endian : ℕ → List ℕ → ℕ
big_endian n [] = n
big_endian n (x ∷ s) = big_endian (n * 256 + x) s

-- the version byte
abbrev pub version : ℕ
version = 1

-- the most elements that an image holds
abbrev pub most_short : ℕ
most_short = 16000

-- the number L of bytes after the first two, of an image of n elements
abbrev pub bytes_after : ℕ → ℕ
bytes_after n = 1 + 4 * n

-- the elements, four bytes big-endian each
unfoldable pub all_bytes : List ℕ → List ℕ
all_bytes [] = []
all_bytes (v ∷ l) = four_bytes v ++ all_bytes l

-- the image of a list: two bytes big-endian, the number L of bytes after them; one byte version 1; the elements
unfoldable pub image_of : List ℕ → List ℕ
image_of l = two_bytes (bytes_after (length l)) ++ version ∷ all_bytes l

-- ---- reading

-- how many elements so many bytes hold behind the first three
unfoldable pub how_many : List ℕ → ℕ
how_many s = (length s - 3) / 4

-- the bytes keep the layout: L is 1 + 4n with n at most that, the version is 1, and nothing follows
unfoldable pub laid_out : List ℕ → Bool
laid_out s =
    eqb (length s) (2 + bytes_after (how_many s))
    && (eqb (big_endian 0 (take 2 s)) (bytes_after (how_many s))
    && (eqb (get_or s 2 0) version && leb (how_many s) most_short))

-- the first n numbers of four bytes each
unfoldable pub fours : ℕ → List ℕ → List ℕ
fours zero s = []
fours (suc n) s = big_endian 0 (take 4 s) ∷ fours n (drop 4 s)

-- the elements of an image
unfoldable pub elements_in : List ℕ → List ℕ
elements_in s = fours (how_many s) (drop 3 s)

-- ---- writing

-- what image writing asks: 1, 2, 4
unfoldable pub on_writing : ℕ → Rec → ℕ → ℕ
on_writing cap r target = on_queue cap r (room target (2 + bytes_after r.len))

-- writing answers the count L + 2
unfoldable pub write_count : List ℕ → Rec → List ℕ → Look ℕ
write_count b r t = looked (on_writing (length b) r (length t)) (2 + bytes_after r.len)

-- it fills the first L + 2 bytes and keeps the later bytes
unfoldable pub written : List ℕ → Rec → List ℕ → List ℕ
written b r t = unless (on_writing (length b) r (length t)) (image_of (held b r) ++ drop (2 + bytes_after r.len) t) t
