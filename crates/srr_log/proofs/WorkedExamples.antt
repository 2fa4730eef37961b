-- The text of the first example's log, and faults of a small one, worked out by hand.
use Rattle.std.proofs.Common.{◌≡◌, ◌≢◌, ℕ, inl, inr, List, [], ◌∷◌, ◌++◌, refl, ap, arith}
use Rattle.std.specs.Prelude.{codes, slice_index}
use Rattle.std.proofs.lemmas.List.Elements.{All-from_recursion}
use Rattle.srr_entry.specs.declared.entry.Mark.TheVariants.{Inside}
use Rattle.srr_entry.specs.declared.entry.Entry.TheVariants.{Sent, Posted, Ended, Took}
use Rattle.srr_entry.specs.declared.log.Log.{Log}
use Rattle.wiz_base.specs.Decimals.{decimal_text}
use Rattle.srr_log.specs.declared.fault.LogWhy.TheVariants.{Short, Extra, BadVersion}
use Rattle.srr_log.specs.LogText.{log_text}
use Rattle.srr_log.specs.Bounds.{IsList, IsInBounds}
use Rattle.srr_log.specs.Parts.{LogPart, head_line, ranks_line, group_line, size_line, program_bytes, rank_line, entry_part, end_line, part_text, log_parts}
use Rattle.srr_log.specs.Faults.{SomeLog, IsFirstPartFault}
use Rattle.srr_log.specs.inside.Reading.{at_head, Allows}
use Rattle.srr_log.proofs.LogLaws.{went_on}

abbrev first_program : List ℕ
first_program = codes "int main(void){int r,x=7;MPI_Comm_rank(MPI_COMM_WORLD,&r);if(r==0)MPI_Send(&x,1,MPI_INT,1,5,MPI_COMM_WORLD);if(r==1){x=0;MPI_Recv(&x,1,MPI_INT,0,5,MPI_COMM_WORLD,MPI_STATUS_IGNORE);printf(\"%d\\n\",x);}return 0;}"

abbrev first_log : Log
first_log = record {
  ranks = 2;
  group = 0 ∷ 1 ∷ [];
  program = first_program;
  lists = (Sent ∷ Ended ∷ []) ∷ (Posted ∷ Took (record { index = 0; mark = Inside 0 0 } ∷ []) ∷ Ended ∷ []) ∷ [];
}

first_text : log_text first_log ≡ codes "srr 1\nranks 2\ngroup 0 1\nprogram 209\n" ++ first_program ++ codes "\nrank 0 2\ns\nz\nrank 1 3\np\nt 0=0.0\nz\nend\n"
unfolding decimal_text
first_text = refl

-- one rank that ends at once
abbrev small : Log
small = record { ranks = 1; group = 0 ∷ []; program = []; lists = (Ended ∷ []) ∷ [] }

small_in_bounds : IsInBounds small
small_in_bounds = record {
  ranks = (omega arith, omega arith);
  group = (omega arith, (omega arith, tt), refl);
  program = omega arith;
  as_many = refl;
  lists = All-from_recursion (IsList 1 (0 ∷ [])) ((Ended ∷ []) ∷ []) ((omega arith, (tt, λ _. refl, tt)), tt);
}

some_small : SomeLog (head_line ∷ ranks_line 1 ∷ group_line (0 ∷ []) ∷ size_line 0 ∷ program_bytes [] ∷ rank_line 0 1 ∷ entry_part Ended ∷ end_line ∷ [])
some_small = (small, small_in_bounds, refl)

-- a byte after it
extra : IsFirstPartFault (codes "srr 1\nranks 1\ngroup 0\nprogram 0\n\nrank 0 1\nz\nend\n\n") (record { at = 48; why = Extra })
unfolding decimal_text
extra = (log_parts small, codes "\n", refl, inr (refl, inl (refl, some_small, λ e. absurd (cc (e)))))

-- its second line without an end
short : IsFirstPartFault (codes "srr 1\nrank") (record { at = 10; why = Short })
short = (
  head_line ∷ [],
  codes "rank",
  refl,
  inl (
    refl,
    refl,
    record {
      next = ranks_line 1;
      more = group_line (0 ∷ []) ∷ size_line 0 ∷ program_bytes [] ∷ rank_line 0 1 ∷ entry_part Ended ∷ end_line ∷ [];
      goes_on = some_small;
      no_end = All-from_recursion (λ byte. byte ≢ 10) (codes "rank") (λ e. omega (arith, e), (λ e. omega (arith, e), (λ e. omega (arith, e), (λ e. omega (arith, e), tt))));
    },
  ),
)

-- another version
head_alone : (part : LogPart) → Allows at_head part → part_text part ≢ codes "srr 2\n"
head_alone head_line ok e = let f : ◌≡◌ {A = ℕ} 49 50 = ap (λ (xs : List ℕ). slice_index xs 4) e in omega (arith, f)
head_alone part ok e = absurd ok

version : IsFirstPartFault (codes "srr 2\n") (record { at = 0; why = BadVersion })
unfolding decimal_text
version = (
  [],
  codes "srr 2\n",
  refl,
  inr (
    refl,
    inr record {
      next = head_line;
      more = ranks_line 1 ∷ group_line (0 ∷ []) ∷ size_line 0 ∷ program_bytes [] ∷ rank_line 0 1 ∷ entry_part Ended ∷ end_line ∷ [];
      goes_on = some_small;
      found = codes "srr 2\n";
      behind = [];
      whole = (codes "srr 2", All-from_recursion (λ byte. byte ≢ 10) (codes "srr 2") (λ e. omega (arith, e), (λ e. omega (arith, e), (λ e. omega (arith, e), (λ e. omega (arith, e), (λ e. omega (arith, e), tt))))), refl);
      is = refl;
      none = λ part more some' e. head_alone part (went_on [] part more some').1 e;
      reason = inl (refl, (2, λ e. omega (arith, e), refl));
    },
  ),
)
