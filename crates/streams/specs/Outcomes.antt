-- What an answer of read or write means. Assumes nothing.
use Rattle.std.specs.Prelude.{ℕ, zero, suc, Bool, true, false, cond, eqb, ℤ, pos, negsuc}
use Rattle.std.specs.Prelude.{Option, None, Some, Result, Ok, Err}
use Rattle.std.specs.IoError.{raw_os_error}
use Rattle.std.specs.declared.io.Error.{Error}

-- so many bytes moved, or none
abbrev pub moving : ℕ → Option ℕ
moving zero = None
moving (suc n) = Some (suc n)

-- errno says that the call was interrupted (EINTR, 4) or could not be made yet (EAGAIN, 11)
abbrev pub passing : Option ℤ → Bool
passing (Some (pos n)) = cond (eqb n 4) true (eqb n 11)
passing (Some (negsuc n)) = false
passing None = false

-- the number of an error of std, which the system's errors have, errno; for one without EIO, 5
abbrev pub number_of : Option ℤ → ℤ
number_of (Some number) = number
number_of None = pos 5

-- so many bytes, none that is to be made again, or a failure
abbrev pub came_to : Result ℕ Error → Result (Option ℕ) Error
came_to (Ok n) = Ok (Some n)
came_to (Err e) = cond (passing (raw_os_error e)) (Ok None) (Err e)

-- the bytes that moved
abbrev pub bytes_of : Result (Option ℕ) Error → ℕ
bytes_of (Ok (Some n)) = n
bytes_of (Ok None) = 0
bytes_of (Err e) = 0

-- the bytes that were read
abbrev pub bytes_in : {E : Type 0} → Result ℕ E → ℕ
bytes_in (Ok n) = n
bytes_in (Err e) = 0
