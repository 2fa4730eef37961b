-- The environment of a call: its files and its output, as it meets and leaves them.
use denote.MutBor.{MutBor}
use denote.Triple.Both.{Both}
use Rattle.wiz_io.specs.Files.{ObservedFiles}
use Rattle.wiz_io.specs.Output.{ObservedOutput}

-- what a call meets: the files and the output
pub record Environment : Type 0 where
  pub store : ObservedFiles
  pub out : ObservedOutput

-- the environment of these files and this output
abbrev pub environment : ObservedFiles → ObservedOutput → Environment
environment store out = record { store = store; out = out }

-- the environment of a call, before it and after it
pub record Around : Type 0 where
  pub before : Environment
  pub after : Environment

-- the environment before a call and after it
abbrev pub around_of : Environment → Environment → Around
around_of before after = record { before = before; after = after }

-- by what the store and the sink of the call tell
abbrev pub around : {S K : Type 0} → (S → ObservedFiles) → (K → ObservedOutput) → Both (MutBor S) (MutBor S) → Both (MutBor K) (MutBor K) → Around
around store_told out_told store out =
    around_of (environment (store_told store.entry.now) (out_told out.entry.now)) (environment (store_told store.exit.now) (out_told out.exit.now))
