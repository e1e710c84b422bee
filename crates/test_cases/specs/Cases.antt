-- Parts of a file of test cases, and numbers in it. Assumes nothing.
use Rattle.std.specs.Prelude.{◌≡◌, cond, List, [], ℕ, ◌+◌, ◌<◌, leb, length, get_or, replicate, Option, MatchOption}
use Rattle.std.specs.Borrow.{Bor}
use Rattle.buffers.specs.BigEndian.{be}
use Rattle.buffers.specs.Parts.{part}

-- the n bytes that begin at `from`; nothing where s ends before
unfoldable pub part_in : ℕ → ℕ → List ℕ → List ℕ
part_in from n s = cond (leb (from + n) (length s)) (part n from s) []

-- the n bytes at `at`; n zeros where s ends before
unfoldable pub bytes_in : ℕ → ℕ → List ℕ → List ℕ
bytes_in at n s = cond (leb (at + n) (length s)) (part n at s) (replicate n 0)

-- the number of four bytes at `at`; 0 where s ends before
unfoldable pub number_at : ℕ → List ℕ → ℕ
number_at at s = be (part_in at 4 s)

-- the part of s whose place is the number at `at` of a question, and whose length the number after it
unfoldable pub part_of : List ℕ → List ℕ → ℕ → List ℕ
part_of s question at = part_in (number_at at question) (number_at (at + 4) question) s

-- the question that begins at `at`: a header, then as many bytes as its byte at `lengths` and the byte after it say; nothing where the file
-- ends before
unfoldable pub question_at : ℕ → ℕ → ℕ → List ℕ → List ℕ
question_at header lengths at cases =
    let head = part_in at header cases in
    part_in at (header + get_or head lengths 0 + get_or head (lengths + 1) 0) cases

-- a question's label: as many bytes after the header as its byte at `lengths` says
unfoldable pub label_of : ℕ → ℕ → List ℕ → List ℕ
label_of header lengths question = part_in header (get_or question lengths 0) question

-- what is copied into `room`: all of `old`, or nothing where the room is shorter
unfoldable pub copied_in : List ℕ → List ℕ → List ℕ
copied_in old room = cond (leb (length old) (length room)) old []

-- of the questions that begin at `at` or later the first, and where the next begins; none where the question at `at` is the empty part
abbrev pub GivesQuestion : ℕ → ℕ → List ℕ → ℕ → Option (Bor (List ℕ)) → ℕ → Type 0
GivesQuestion header lengths cases at one next =
    MatchOption
    one
    ((question_at header lengths at cases ≡ []) × (next ≡ at))
    (λ q. (q.now ≡ question_at header lengths at cases) × (0 < length q.now) × (next ≡ at + length q.now))
