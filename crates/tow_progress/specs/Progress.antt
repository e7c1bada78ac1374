-- What contracts see of an open connection.
use Rattle.std.specs.Prelude.{ℕ, List, [], ◌++◌}
use Rattle.tow_model.specs.declared.account.Verdict.{Verdict}

-- Each byte of the input, each byte of the output and each verdict stands in one place of it.
pub record Progress : Type 0 where
  -- the connection's number, from 0
  pub number : ℕ
  -- the client's address
  pub peer : ℕ
  -- the number of the request that is open, from 1
  pub request : ℕ
  -- what was taken of requests that are finished
  pub finished : List ℕ
  -- what was taken of the request that is open
  pub current : List ℕ
  -- what stands in the pipe of input
  pub piped_in : List ℕ
  -- what the link has left to read
  pub left : List ℕ
  -- what was put for requests that are finished
  pub texts : List ℕ
  -- what was put for the request that is open
  pub put : List ℕ
  -- what stands in the pipe of output
  pub piped_out : List ℕ
  -- what the link took
  pub written : List ℕ
  -- the verdicts that finished requests got
  pub spent : List Verdict
  -- the verdicts that the open request got
  pub own : List Verdict

-- the input from the open request on
abbrev pub unfinished : Progress → List ℕ
unfinished c = c.current ++ (c.piped_in ++ c.left)

-- all that the link had to read
abbrev pub input_of : Progress → List ℕ
input_of c = c.finished ++ unfinished c

-- all verdicts so far
abbrev pub verdicts_of : Progress → List Verdict
verdicts_of c = c.spent ++ c.own

-- a connection of which nothing was read or written
abbrev pub opening : ℕ → ℕ → List ℕ → Progress
opening k peer input = record {
  number = k;
  peer = peer;
  request = 1;
  finished = [];
  current = [];
  piped_in = [];
  left = input;
  texts = [];
  put = [];
  piped_out = [];
  written = [];
  spent = [];
  own = [];
}

-- what no step of a connection changes
pub record Origin : Type 0 where
  pub number : ℕ
  pub peer : ℕ
  pub input : List ℕ

abbrev pub origin_of : Progress → Origin
origin_of c = record { number = c.number; peer = c.peer; input = input_of c }
