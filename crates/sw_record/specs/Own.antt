-- Every byte that is written on a link was sent for its own session.
use Rattle.std.specs.Prelude.{◌≡◌, ℕ, [], ◌++◌, List, length, slice_get, Some, None}
use Rattle.std.specs.List.{concat}
use Rattle.sw_lists.specs.Lists.{IsPrefix}
use Rattle.sw_lists.specs.Merge.{Merge}
use Rattle.sw_record.specs.Logs.{told_of}
use Rattle.sw_record.specs.Sends.{Sends, sends_before}
use Rattle.sw_record.specs.Terms.{logs, session_of, HasLink}
use Rattle.sw_record.specs.Words.{Done, Log}
use Rattle.sw_record.specs.declared.record.LinkRecord.{LinkRecord}
use Rattle.sw_record.specs.declared.record.Record.{Record}

-- these first sends to s are acts that stand before the log's first event of s
pub record StandsEarly (log : Log) (s : ℕ) (front : List (List ℕ)) : Type 0 where
  pub early : Log
  pub late : Log
  pub split : log ≡ early ++ late
  pub untold : told_of s early ≡ []
  pub sends : IsPrefix front (sends_before s Done early late)

-- a part of the log's sends to s without a gap, which leaves out at the front only what stands early
pub record IsPart (log : Log) (s : ℕ) (part : List (List ℕ)) : Type 0 where
  pub front : List (List ℕ)
  pub back : List (List ℕ)
  pub joined : front ++ (part ++ back) ≡ Sends log s
  pub early : ¬ (told_of s log ≡ []) → StandsEarly log s front

-- the sends that were taken for a link, by logs and merged, of which the written bytes are the beginning
pub record Owned (r : Record) (s : ℕ) (l : LinkRecord) : Type 0 where
  pub parts : List (List (List ℕ))
  pub out : List (List ℕ)
  pub each : length parts ≡ length (logs r)
  pub is_part : (k : ℕ) (log : Log) (part : List (List ℕ)) → slice_get (logs r) k ≡ Some log → slice_get parts k ≡ Some part → IsPart log s part
  pub merged : Merge out parts
  pub written : IsPrefix l.written (concat out)

-- every byte on a link was sent for its own session
pub record Own (r : Record) : Type 0 where
  pub owned : (s : ℕ) (l : LinkRecord) → HasLink r.links s l → Owned r s l
  pub nothing : (at : ℕ) (l : LinkRecord) → slice_get r.links at ≡ Some l → session_of l.state ≡ None → l.written ≡ []
