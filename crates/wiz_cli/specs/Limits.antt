-- The limits of the tool, each written out: what a document says of a limit is said of this number.
use Rattle.std.specs.Prelude.{◌≡◌}
use Rattle.c_scope.specs.declared.constant.TheConstants.{MOST_ELEMENTS}
use Rattle.c_grammar.specs.declared.limits.TheConstants.{MOST_DEPTHS}
use Rattle.c_lex.specs.declared.limits.TheConstants.{GREATEST_LITERAL, MOST_BYTES}
use Rattle.c_program.specs.declared.constants.TheConstants.{MOST_CALLS, MOST_CELLS, MOST_PRINTED, MOST_STEPS}
use Rattle.mpi_call.specs.declared.limits.TheConstants.{GREATEST_TAG, MOST_EVENTS, MOST_INTS, MOST_RANKS, MOST_RESULT_INTS, MOST_SIZE, MOST_STARTS}
use Rattle.msg_races.specs.Names.{most_racing}
use Rattle.other_picks.specs.declared.other.TheConstants.{MOST_OTHER_PICKS}
use Rattle.srr_log.specs.declared.limits.TheConstants.{GREATEST_NUMBER, MOST_ENTRIES, MOST_LOG_BYTES, MOST_PROGRAM_BYTES}
use Rattle.wiz_words.specs.declared.limits.TheConstants.{FEWEST_POLLS, FEWEST_RANKS, FEWEST_ROUNDS, FEWEST_STATES, GREATEST_CALL, GREATEST_RANK, GREATEST_SEED, GREATEST_START, MOST_POLLS, MOST_ROUNDS, MOST_STATES, USUAL_POLLS, USUAL_STATES}
use Rattle.wiz_tool.specs.Inputs.{order_limit, text_limit}
use Rattle.wiz_runs.specs.declared.commands.picture.TheConstants.{MOST_DRAWN}

-- the limits of the product, each with its number
pub record AreTheLimits : Type 0 where
  -- an input file: the most bytes of a program or a plan
  pub text : text_limit ≡ 65536
  -- of an order
  pub order : order_limit ≡ 8388608
  -- of a log
  pub log : MOST_LOG_BYTES ≡ 134217728
  -- a program's text: the most bytes
  pub bytes : MOST_BYTES ≡ 65536
  -- the greatest number
  pub literal : GREATEST_LITERAL ≡ 2147483647
  -- how deep its parts may stand in one another
  pub depth : MOST_DEPTHS ≡ 64
  -- the most elements of an array
  pub elements : MOST_ELEMENTS ≡ 262144
  -- a rank of a program: the most steps
  pub steps : MOST_STEPS ≡ 10000000
  -- the most cells of its variables
  pub cells : MOST_CELLS ≡ 262144
  -- the most bytes that it prints
  pub printed : MOST_PRINTED ≡ 65536
  -- the most calls of functions inside one another
  pub calls : MOST_CALLS ≡ 100
  -- an MPI call: the greatest tag
  pub tag : GREATEST_TAG ≡ 2147483647
  -- the most ints of a message, and the greatest count of a collective
  pub ints : MOST_INTS ≡ 65536
  -- the most ints that a collective takes of a rank or gives to it
  pub result_ints : MOST_RESULT_INTS ≡ 262144
  -- the most starts that a completion lists
  pub starts : MOST_STARTS ≡ 1000000
  -- a run: the most ranks, which is also the most of a block of an advice
  pub ranks : MOST_RANKS ≡ 64
  -- so many events stop it
  pub events : MOST_EVENTS ≡ 999000
  -- events of this size together stop it
  pub size : MOST_SIZE ≡ 4194304
  -- the most others with which its races are listed
  pub others : most_racing ≡ 1000000
  -- the most order files of its other picks
  pub other_picks : MOST_OTHER_PICKS ≡ 10000
  -- the most events of a picture as SVG
  pub drawn : MOST_DRAWN ≡ 4000
  -- a log: the greatest number of a start, a communicator or an index
  pub number : GREATEST_NUMBER ≡ 999999
  -- the most entries of a rank
  pub entries : MOST_ENTRIES ≡ 999064
  -- the most bytes of its program's text
  pub program : MOST_PROGRAM_BYTES ≡ 65536
  -- arguments: the greatest rank of a breakpoint
  pub break_rank : GREATEST_RANK ≡ 63
  -- the greatest call of a breakpoint
  pub break_call : GREATEST_CALL ≡ 999999
  -- the greatest number of a message's start
  pub start : GREATEST_START ≡ 999999
  -- the fewest ranks of the blocks of an advice
  pub block_from : FEWEST_RANKS ≡ 1
  -- the greatest seed of a demo
  pub seed : GREATEST_SEED ≡ 2147483647
  -- the fewest rounds of a demo
  pub rounds_from : FEWEST_ROUNDS ≡ 1
  -- the most
  pub rounds : MOST_ROUNDS ≡ 1000
  -- a search: the fewest states that it looks at
  pub states_from : FEWEST_STATES ≡ 1
  -- the most
  pub states : MOST_STATES ≡ 1000000
  -- how many where nothing is said
  pub usual : USUAL_STATES ≡ 10000
  -- the fewest times in a row that a rank looks in vain
  pub polls_from : FEWEST_POLLS ≡ 1
  -- the most
  pub polls : MOST_POLLS ≡ 1000
  -- how many where nothing is said
  pub patience : USUAL_POLLS ≡ 3
