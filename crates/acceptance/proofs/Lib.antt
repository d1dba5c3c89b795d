pub mod ExampleProofs
