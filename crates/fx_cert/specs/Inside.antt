-- A certificate's fields, as the certificate that contracts see.
use Rattle.fx_cert.specs.Certificate.{Certificate, CertificateFits}
use Rattle.fx_cert.specs.declared.cert.Cert.TheInside.{Inside}

abbrev pub certificate_of : Inside → Certificate
certificate_of c = record { length = c.block; bounds = c.bounds.items; errors = c.errors.items }

-- the numbers are in their ranges
abbrev pub IsKept : Inside → Type 0
IsKept c = CertificateFits (certificate_of c)
