-- Of `check`, and of `report` with its details: their plan, and what status 0 claims.
use Rattle.std.specs.Prelude.{ℕ, List, Option, Result, Ok, Err, IsOkAnd, IsSomeAnd}
use Rattle.std.specs.FinMap.{get}
use Rattle.fx_io.specs.Shelf.{Files}
use Rattle.fx_files.specs.Describes.{IsFileOf}
use Rattle.fx_files.specs.Filter.{Filter}
use Rattle.fx_files.specs.Reading.{filter_of_bytes}
use Rattle.fx_keys.specs.declared.fault.FilterFault.{FilterFault}
use Rattle.fx_code.specs.Code.{Code}
use Rattle.fx_text.specs.Grammar.{Spells}
use Rattle.fx_text.specs.Reading.{code_in}
use Rattle.fx_text.specs.declared.fault.CodeFault.{CodeFault}
use Rattle.fx_cert.specs.Certificate.{Certificate, IsTextOf}
use Rattle.fx_cert.specs.Lines.{lines_of}
use Rattle.fx_cert.specs.Reading.{certificate_in}
use Rattle.fx_cert.specs.declared.fault.CertFault.{CertFault}
use Rattle.fx_block.specs.Certified.{PassesSound}
use Rattle.fx_block.specs.Passes.{Passes}
use Rattle.fx_block.specs.Sound.{IsSound}
use Rattle.fx_tool.specs.Answer.{Answer}
use Rattle.fx_tool.specs.Judgement.{told, passing_lines}
use Rattle.fx_tool.specs.Plan.{Plan, Ends, Reads}
use Rattle.fx_tool.specs.Reading.{Has}
use Rattle.fx_tool.specs.Refused.{refused_filter, refused_code, refused_certificate}
use Rattle.fx_tool.specs.Writing.{GrowsBy}
use Rattle.fx_tool.specs.declared.judgement.Detail.{Detail}

-- what a certificate's bytes are read as
abbrev pub certified : Detail → Filter → Code → Result Certificate CertFault → Answer
certified detail f p (Ok c) = told detail f p c
certified detail f p (Err fault) = refused_certificate fault

-- the program goes on to the certificate, or its first fault is told
abbrev pub code_plan : Detail → Filter → Result Code CodeFault → Plan
code_plan detail f (Ok p) = Reads (λ cert. Ends (certified detail f p (certificate_in (lines_of cert))))
code_plan detail f (Err fault) = Ends (refused_code fault)

-- the filter goes on to the program
abbrev pub filter_plan : Detail → Result Filter FilterFault → Plan
filter_plan detail (Ok f) = Reads (λ code. code_plan detail f (code_in code))
filter_plan detail (Err fault) = Ends (refused_filter fault)

abbrev pub check_plan : Detail → Plan
check_plan detail = Reads (λ filter. filter_plan detail (filter_of_bytes filter))

-- ---- what holds of the files beside the answer, where that is status 0; of files that are not told nothing is said

-- what is read of a certificate's bytes meets all inequalities for the filter and the program, and is sound for them
abbrev pub CertificateIsSound : Filter → Code → List ℕ → Type 0
CertificateIsSound f p bytes = IsOkAnd (certificate_in (lines_of bytes)) (λ c. PassesSound f p c)

-- and what is read of the program's
abbrev pub CodeIsSound : Option Files → List ℕ → Filter → List ℕ → Type 0
CodeIsSound told cert f bytes = IsOkAnd (code_in bytes) (λ p. Has told cert (CertificateIsSound f p))

-- and of the filter's
abbrev pub FilterIsSound : Option Files → List ℕ → List ℕ → List ℕ → Type 0
FilterIsSound told code cert bytes = IsOkAnd (filter_of_bytes bytes) (λ f. Has told code (CodeIsSound told cert f))

abbrev pub FilesAreSound : Option Files → List ℕ → List ℕ → List ℕ → Type 0
FilesAreSound told filter code cert = Has told filter (FilterIsSound told code cert)

-- ---- the headline

-- The three files are those of a filter, a program and a certificate, which meet all inequalities; for every list of
-- input words within the filter's bounds, of any length, each row of the program ends with the exact sum in its
-- accumulator, each stored word lies in its format, and each output differs from the filter's exact output by at most
-- the certificate's error, which is the one that was printed.
pub record Headline (detail : Detail) (files : Files) (filter_name code_name certificate_name : List ℕ)
    (before after : Option (List ℕ)) : Type 0 where
  pub filter : Filter
  pub program : Code
  pub certificate : Certificate
  pub filter_file : IsSomeAnd (get files filter_name) (λ bytes. IsFileOf bytes filter)
  pub code_text : IsSomeAnd (get files code_name) (λ bytes. Spells bytes program)
  pub certificate_text : IsSomeAnd (get files certificate_name) (λ bytes. IsTextOf bytes certificate)
  pub passes : Passes filter program certificate
  pub sound : IsSound filter program certificate.errors
  pub printed : GrowsBy (passing_lines detail filter program certificate) before after
